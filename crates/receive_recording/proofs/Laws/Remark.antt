-- P3: the remark is about the whole recording: what its samples are, seen block by block, is what they are as
-- a whole. Assumes nothing.
use mathlib.Core.Path.{◌≡◌, refl, sym, ap, ◌∙◌}
use mathlib.Core.List.{List, [], ◌∷◌, foldl-append}
use lib.Ieee.{Float}
use Rattle.values.specs.Samples.{samples}
use Rattle.values.proofs.Laws.Samples.{samples-append}
use Rattle.recordings.specs.declared.content.Content.{Content}
use Rattle.recordings.specs.declared.content.Content.TheVariants.{Empty}
use Rattle.recordings.specs.Content.{seen, content_with, content_of}
use Rattle.recordings.proofs.Laws.Content.{content-exactly}
use Rattle.receive_recording.specs.Block.{content_all, whole, Even}

all-content : (c : Content) (bs : List (List Float)) → Even bs → content_all c bs ≡ content_with c (samples (whole bs))
unfolding content_all whole Even samples
all-content c [] even = refl
all-content c (b ∷ bs) even =
    all-content (content_with c (samples b)) bs even.1
    ∙ sym (foldl-append seen c (samples b) (samples (whole bs)))
    ∙ ap (content_with c) (sym (samples-append b (whole bs) even.0))

pub remark-of-the-whole : (bs : List (List Float)) → Even bs → content_all Empty bs ≡ content_of (samples (whole bs))
remark-of-the-whole bs even = all-content Empty bs even ∙ content-exactly (samples (whole bs))
