use Rattle.std.proofs.Common.{◌+◌, ◌<◌, ◌≤◌, ap, subst, ◌∙◌, ◌++◌, length, take, drop, append-nil, arith}
use Rattle.std.proofs.lemmas.List.{take_all, take_rest, length-drop}
use Rattle.std.specs.Io.KnownBytes.{Appends}
use Rattle.sml_reply.specs.Sinks.{one_more}
use Rattle.sml_reply.specs.declared.sink.OutFault.{OutFault}
use Rattle.sml_reply.proofs.Sinks.{appends_more, appends_nothing, prints_all, prints_some, take_both, parted, parted_both, after, counted_zero, counted_some}
use Rattle.sml_reply.proofs.sink.write_all.Goals as goal

pub returns-in-Ok-eq0 : goal.returns-in-Ok-eq0
returns-in-Ok-eq0 g c =
    let bytes = c.args.bytes.now in
    let i = c.loop-start.start in
    let f = c.in-Ok-eq0.field-0 in
    let some : 0 < length (after i bytes) = (let e = ap length (take_rest bytes i) in let d = length-drop i bytes in let h = c.loop-start-test.true in omega (arith, e, d, h)) in
    prints_some _ _ _ _ _ _ bytes (take i bytes ++ take f (after i bytes)) (drop f (after i bytes)) (parted_both i f bytes)
    (appends_more _ _ _ _ _ c.loop-start.invariant.1 c.in-Ok-eq0.ensures.appended)
    (c.in-Ok-eq0.ensures.counted ∙ counted_zero OutFault f _ (after i bytes) c.in-Ok-eq0.field-0-test some ∙ ap one_more c.loop-start.invariant.2)

pub loop-start-preserved : goal.loop-start-preserved
loop-start-preserved g c =
    let bytes = c.args.bytes.now in
    let i = c.loop-start.start in
    let f = c.in-Ok.count in
    let within : i + f ≤ length bytes =
    (let e = ap length (take_rest bytes i) in let d = length-drop i bytes in let h = c.loop-start-test.true in let b = c.in-Ok.ensures.bound in omega (arith, e, d, h, b)) in (
      within,
      subst (Appends _ _) (take_both i f bytes) (appends_more _ _ _ _ _ c.loop-start.invariant.1 c.in-Ok.ensures.appended),
      c.in-Ok.ensures.counted ∙ counted_some OutFault f _ (after i bytes) c.in-Ok.count-test.1 ∙ c.loop-start.invariant.2,
    )

pub returns-in-Err : goal.returns-in-Err
returns-in-Err g c =
    let bytes = c.args.bytes.now in
    let i = c.loop-start.start in
    prints_some _ _ _ _ _ _ bytes (take i bytes) (drop i bytes) (parted i bytes)
    (subst (Appends _ _) (append-nil (take i bytes)) (appends_more _ _ _ _ _ c.loop-start.invariant.1 (appends_nothing _ _ c.in-Err.ensures.appended)))
    (c.in-Err.ensures.counted ∙ ap one_more c.loop-start.invariant.2)

pub returns : goal.returns
returns g c =
    let bytes = c.args.bytes.now in
    let i = c.loop-start.start in
    prints_all _ _ _ _ _ _ bytes (subst (Appends _ _) (take_all i bytes (let h = c.loop-start-test.false in omega (arith, h))) c.loop-start.invariant.1) c.loop-start.invariant.2
