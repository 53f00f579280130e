use Rattle.std.proofs.Common.{◌∷◌, [], ◌++◌, take, get_or, sym, ap, ◌∙◌, append_assoc}
use Rattle.std.proofs.lemmas.List.{take_more, take_all}
use Rattle.sml_reach.specs.Places.{place_after}
use Rattle.sml_reach.proofs.place.after_all.Goals as goal

pub loop-byte-preserved : goal.loop-byte-preserved
loop-byte-preserved c =
    λ before e. let i = c.loop-byte.byte-index in let bytes = c.args.bytes.now in
    c.after-reached.ensures (before ++ take i bytes) (c.loop-byte.invariant before e)
    ∙ ap place_after (append_assoc before (take i bytes) (get_or bytes i 0 ∷ []) ∙ ap (λ xs. before ++ xs) (sym (take_more bytes i 0 c.loop-byte-test.true)))

pub returns : goal.returns
returns c =
    λ before e. c.loop-byte.invariant before e
    ∙ ap (λ xs. place_after (before ++ xs)) (take_all c.loop-byte.byte-index c.args.bytes.now c.loop-byte-test.false)
