use Rattle.std.proofs.Common.{◌≡◌, ◌≤◌, arith}
use Rattle.std.specs.Prelude.{min}
use Rattle.std.proofs.Math.Nat.{min-le_left}
use Rattle.sml_lex.specs.declared.fault.Code.TheVariants.{E7}
use Rattle.sml_objects.specs.Sizes.{type_size}
use Rattle.sml_objects.specs.Views.{type_of}
use Rattle.sml_rules.specs.Answers.{fault, test}
use Rattle.sml_rules.specs.Readings.{IsSmall}
use Rattle.sml_piece.proofs.Answering.{refused_by, fails, passes}
use Rattle.sml_piece.proofs.expressions.small.Goals as goal

pub returns-then-size_up_to-gt-GREATEST_SIZE : goal.returns-then-size_up_to-gt-GREATEST_SIZE
returns-then-size_up_to-gt-GREATEST_SIZE c =
    let p = c.args.place in
    let n = type_size (type_of c.args.ty.now) in
    let seen : c.size_up_to.result ≡ min n 10001 = c.size_up_to.ensures in
    let large : ¬ (n ≤ 10000) = λ h.
    let most : min n 10001 ≤ n = min-le_left n 10001 in
    let over = c.if-size_up_to-gt-GREATEST_SIZE.true in
    omega (arith, h, most, over, seen) in
    refused_by (λ u. u) (test (IsSmall (type_of c.args.ty.now)) (fault E7 p)) c.plain_fault.result (fault E7 p) c.plain_fault.ensures (fails _ _ large)

pub returns : goal.returns
returns c =
    let p = c.args.place in
    let n = type_size (type_of c.args.ty.now) in
    let seen : c.size_up_to.result ≡ min n 10001 = c.size_up_to.ensures in
    let within = c.if-size_up_to-gt-GREATEST_SIZE.false in
    passes (IsSmall (type_of c.args.ty.now)) (fault E7 p) (omega (arith, within, seen, min-le_left n 10001))
