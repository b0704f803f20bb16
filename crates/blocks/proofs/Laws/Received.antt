-- The receiver over a list of samples, as one run: an accepted call is such a run and a refused one leaves nothing
-- heard; two runs in a row are one, and one on nothing changes nothing. Assumes nothing.
use mathlib.Core.Path.{◌≡◌, refl, sym, ap, ap₂, ◌∙◌}
use mathlib.Core.Bool.{true, false, cond}
use mathlib.Core.List.{List, [], ◌∷◌, ◌++◌, map}
use Prim.Native.Nat.{ℕ, ◌+◌, ◌-◌, ◌*◌, ◌/◌, ◌≤◌}
use native.Mathlib.Nat.{zero-add}
use lib.IntN.{+ℤ_idl}
use lib.ListN.{length, take, drop, length-append}
use Rattle.values.specs.declared.sample.C32.{C32}
use Rattle.values.specs.declared.error.Refusal.{Refusal}
use Rattle.values.specs.Samples.{samples, parts}
use Rattle.values.proofs.Laws.Samples.{samples-take}
use Rattle.values.specs.Buffers.{written}
use Rattle.values.specs.Counter.{count_after}
use Rattle.values.proofs.Laws.Counter.{count_none, count-twice}
use Rattle.timing.specs.Sample.{complex}
use Rattle.timing.specs.Run.{Ran, ran}
use Rattle.timing.proofs.Laws.Turned.{written_back}
use Rattle.cosine.specs.Table.{cos_list}
use Rattle.carrier.specs.Step.{Symbols, runs}
use Rattle.carrier.proofs.Laws.Count.{runs-count}
use Rattle.receiver.specs.Record.{Receiver, Given}
use Rattle.sample_calls.specs.Call.{refused_call, done, accepts}
use Rattle.sample_calls.specs.Calls.{Call, strobes_of, outputs_of}
use Rattle.sample_calls.proofs.Laws.Refused.{accepted-done, refused-by}
use Rattle.blocks.specs.Instants.{Instant, later, instants}
use Rattle.blocks.specs.Timing.{goes_on, together}
use Rattle.blocks.specs.Receiver.{Waiting, handed, call_on, waits_after, Heard, heard_on, joined, unheard}
use Rattle.blocks.proofs.Laws.Timing.{ran-together, instants-together}
use Rattle.blocks.proofs.Laws.Nothing.{ran-nothing, instants-nothing}
use Rattle.blocks.proofs.Laws.Instants.{instants-count}
use Rattle.blocks.proofs.Laws.Carrier.{runs-together}

-- ---- one run over the samples l, with n places
abbrev timed : Receiver → List C32 → ℕ → Ran C32
timed r l n = ran complex r.timing l n

abbrev carried : Receiver → List C32 → Symbols
carried r vs = runs cos_list r.carrier.constellation r.carrier.params r.carrier.track vs

-- of the strobes and of what the carrier makes of them
abbrev assembled : Receiver → Ran C32 → Symbols → List Instant → Heard
assembled r t c is = record {
  strobes = t.values;
  outputs = c.values;
  instants = is;
  consumed = t.taken;
  produced = length t.values;
  receiver = record { timing = t.state; carrier = record { constellation = r.carrier.constellation; params = r.carrier.params; track = c.last }; count = count_after r.count (length t.values) };
}

abbrev pub received : Receiver → List C32 → ℕ → Heard
received r l n = assembled r (timed r l n) (carried r (timed r l n).values) (instants complex r.timing l n)

pub received-instants : (r : Receiver) (l : List C32) (n : ℕ) → length (received r l n).instants ≡ (received r l n).produced
received-instants r l n = instants-count complex r.timing l n

-- ---- two in a row are one, where there are m places in all
joined-consumed : (q h : Heard) → (joined q h).consumed ≡ q.consumed + h.consumed
joined-consumed q h = refl

joined-instants : (q h : Heard) → (joined q h).instants ≡ q.instants ++ map (later q.consumed) h.instants
joined-instants q h = refl

pub received-joined : (r : Receiver) → Given r → (xs ys : List C32) (n m : ℕ) → n ≤ m → let q = received r xs n in joined q (received q.receiver (drop q.consumed xs ++ ys) (m - q.produced)) ≡ received r (xs ++ ys) m
received-joined r given xs ys n m fewer =
    let s = r.timing in
    let q = timed r xs n in
    let p = goes_on complex q xs ys m in
    let u = carried r q.values in
    let v = runs cos_list r.carrier.constellation r.carrier.params u.last p.values in
    let timings = ran-together complex s xs ys n m fewer given.timing in
    let carriers = runs-together cos_list r.carrier.constellation r.carrier.params r.carrier.track q.values p.values in
    let is = instants-together complex s xs ys n m fewer given.timing in
    let count = sym (length-append q.values p.values) in
    let symbols = count-twice r.count (length q.values) (length p.values) ∙ ap (count_after r.count) count in
    let first = received r xs n in
    let second = received first.receiver (drop q.taken xs ++ ys) (m - length q.values) in
    let both-taken = joined-consumed first second in
    let one-after-another = joined-instants first second ∙ sym is in
    (λ j. record {
      strobes = q.values ++ p.values;
      outputs = u.values ++ v.values;
      instants = one-after-another j;
      consumed = both-taken j;
      produced = count j;
      receiver = record { timing = p.state; carrier = record { constellation = r.carrier.constellation; params = r.carrier.params; track = v.last }; count = symbols j };
    })
    ∙ ap (λ (c : Symbols). assembled r (together q p) c (instants complex s (xs ++ ys) m)) carriers
    ∙ ap (λ (t : Ran C32). assembled r t (carried r t.values) (instants complex s (xs ++ ys) m)) timings

-- ---- a call that is not refused is one
module _ (w : Waiting) (c : Call) where
  abbrev r : Receiver
  r = w.receiver

  abbrev t : Ran C32
  t = timed r (samples (handed w c)) (length c.strobes / 2)

  abbrev n : ℕ
  n = length t.values

  -- the carrier is handed the strobes
  handed-on : samples (take (2 * n) (written (parts t.values) c.strobes)) ≡ t.values
  handed-on = samples-take n (written (parts t.values) c.strobes) ∙ written_back t.values c.strobes

  -- and its symbols are read back from the output
  outputs-back : take n (samples (written (parts (carried r t.values).values) c.output)) ≡ (carried r t.values).values
  outputs-back =
      let u = (carried r t.values).values in
      let e = runs-count cos_list r.carrier.constellation r.carrier.params r.carrier.track t.values in
      ap (λ (k : ℕ). take k (samples (written (parts u) c.output))) (sym e) ∙ written_back u c.output

  done-received : let o = done r (handed w c) c.strobes c.output in let is = instants complex r.timing (samples (handed w c)) (length c.strobes / 2) in
      record { strobes = strobes_of o; outputs = outputs_of o; instants = is; consumed = o.consumed; produced = o.produced; receiver = o.receiver } ≡ received r (samples (handed w c)) (length c.strobes / 2)
  unfolding done
  done-received =
      let is = instants complex r.timing (samples (handed w c)) (length c.strobes / 2) in
      let front = written_back t.values c.strobes in
      ap (λ (vs : List C32). let u = carried r vs in record { strobes = take n (samples (written (parts t.values) c.strobes)); outputs = take n (samples (written (parts u.values) c.output)); instants = is; consumed = t.taken; produced = n; receiver = (assembled r t u is).receiver }) handed-on
      ∙ (λ j. record { strobes = front j; outputs = outputs-back j; instants = is; consumed = t.taken; produced = n; receiver = (received r (samples (handed w c)) (length c.strobes / 2)).receiver })

  pub call-received : accepts (handed w c) c.strobes c.output ≡ true → heard_on w c ≡ received r (samples (handed w c)) (length c.strobes / 2)
  call-received h =
      let e = accepted-done r (handed w c) c.strobes c.output h in
      let is = instants complex r.timing (samples (handed w c)) (length c.strobes / 2) in
      (λ j. record { strobes = strobes_of (e j); outputs = outputs_of (e j); instants = cond (h j) is []; consumed = (e j).consumed; produced = (e j).produced; receiver = (e j).receiver }) ∙ done-received

-- ---- a refused call leaves nothing heard
module _ (w : Waiting) (c : Call) (h : accepts (handed w c) c.strobes c.output ≡ false) where
  abbrev refusal : (n : Refusal) × (call_on w c ≡ refused_call n w.receiver c.strobes c.output)
  refusal = refused-by w.receiver (handed w c) c.strobes c.output h

  pub refused-unheard : heard_on w c ≡ unheard w.receiver
  refused-unheard =
      let e = refusal.1 in
      let is = instants complex w.receiver.timing (samples (handed w c)) (length c.strobes / 2) in
      λ j. record { strobes = strobes_of (e j); outputs = outputs_of (e j); instants = cond (h j) is []; consumed = (e j).consumed; produced = (e j).produced; receiver = (e j).receiver }

  -- and leaves all that it was handed
  pub refused-waits : waits_after w c ≡ record { receiver = w.receiver; rest = handed w c }
  refused-waits = let e = refusal.1 in λ j. record { receiver = (e j).receiver; rest = drop (2 * (e j).consumed) (handed w c) }

-- instants counted from 0 samples earlier are the same
not-later : (l : List Instant) → map (later 0) l ≡ l
not-later [] = refl
not-later (x ∷ l) = λ j. record { sample = +ℤ_idl x.sample j; part = x.part } ∷ not-later l j

pub unheard-first : (r : Receiver) (h : Heard) → joined (unheard r) h ≡ h
unheard-first r h = λ j. record { strobes = h.strobes; outputs = h.outputs; instants = not-later h.instants j; consumed = zero-add h.consumed j; produced = zero-add h.produced j; receiver = h.receiver }

-- ---- on nothing
pub received-nothing : (r : Receiver) → Given r → (m : ℕ) → received r [] m ≡ unheard r
unfolding runs
received-nothing r given m =
    ap₂ (λ (t : Ran C32) (is : List Instant). assembled r t (carried r t.values) is) (ran-nothing complex r.timing given.timing m) (instants-nothing complex r.timing given.timing m)
    ∙ (λ j. record { strobes = []; outputs = []; instants = []; consumed = 0; produced = 0; receiver = record { timing = r.timing; carrier = r.carrier; count = count_none r.count given.count-in j } })
