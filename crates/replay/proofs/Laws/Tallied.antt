-- Lines that are counted after others: their numbers add. Assumes nothing.
use Rattle.std.proofs.Common.{◌≡◌, ℕ, suc, ◌+◌, Bool, sym, subst, add-zero, add-suc}
use Rattle.replay.specs.declared.tally.Tally.{Tally}
use Rattle.replay.specs.Tally.{counted, Tallied, none, line, answer}

one_more : {i j : ℕ} {a b : Tally} (p : ℕ) (x : Bool) → i ≡ suc j → Tallied i a b → Tallied i a (counted b p x)
one_more p x e h = rw e (answer p x (rw e at h))

pub tallied-on : {n k : ℕ} {a b c : Tally} → Tallied n a b → Tallied k b c → Tallied (n + k) a c
tallied-on h none = rw add-zero h
tallied-on {n} h (line {n = k} p x r) = rw (add-suc n k) (line p x (tallied-on h r))
tallied-on {n} h (answer {n = k} p x r) = one_more p x (add-suc n k) (tallied-on h r)

pub line-tallied : {t u : Tally} (p : ℕ) (x : Bool) → u ≡ counted t p x → Tallied 1 t u
line-tallied {t} p x e = subst (Tallied 1 t) (sym e) (line p x none)

-- an answer more for the same line
pub answer-tallied : {n : ℕ} {a b c : Tally} (p : ℕ) (x : Bool) → Tallied (suc n) a b → c ≡ counted b p x → Tallied (suc n) a c
answer-tallied {n} {a} p x h e = subst (Tallied (suc n) a) (sym e) (answer p x h)
