use Rattle.std.proofs.Common.{Ok, Err, subst, sym}
use Rattle.std.specs.Option.{option_map}
use Rattle.sml_objects.specs.Views.{type_of}
use Rattle.sml_core.specs.Answered.{Equates}
use Rattle.sml_core.specs.Rules.{LikeFirst}
use Rattle.sml_core.proofs.Matches.{like-none, like-some, like-unequal}
use Rattle.sml_core.proofs.Sequences.{by-err}
use Rattle.sml_core.proofs.context.Context.like_first.Goals as goal

pub returns-in_err-equal-in-Some : goal.returns-in_err-equal-in-Some
returns-in_err-equal-in-Some c =
    let f = c.in_err-equal-in-Some.field-0.0 in
    let t = type_of c.args.ty.value in
    let first = type_of c.in-Some.first.value in
    by-err (LikeFirst c.args.self.now c.args.place (option_map (λ t. type_of t.value) c.args.first) t c.equal.new.self) c.from_residual.result f c.from_residual.ensures.1
    (subst (λ o. LikeFirst c.args.self.now c.args.place (option_map (λ t. type_of t.value) o) t c.equal.new.self (Err f)) (sym c.in-Some.is)
    (like-unequal c.args.self.now c.equal.new.self c.args.place first t f
    (subst (λ x. Equates c.args.self.now c.args.place (type_of x) t c.equal.new.self (Err f)) c.deref.ensures
    (subst (λ x. Equates c.args.self.now c.args.place (type_of c.deref.result.now) (type_of x) c.equal.new.self (Err f)) c.deref-in-Some.ensures c.in_err-equal-in-Some.ensures))))

pub returns-in-None : goal.returns-in-None
returns-in-None c =
    subst (λ o. LikeFirst c.args.self.now c.args.place (option_map (λ t. type_of t.value) o) (type_of c.args.ty.value) c.args.self.now (Ok c.args.ty)) (sym c.in-None.is)
    (like-none c.args.self.now c.args.place c.args.ty)

pub returns-in_ok-equal-in-Some : goal.returns-in_ok-equal-in-Some
returns-in_ok-equal-in-Some c =
    let t = type_of c.args.ty.value in
    subst (λ o. LikeFirst c.args.self.now c.args.place (option_map (λ t. type_of t.value) o) t c.equal.new.self (Ok c.in-Some.first)) (sym c.in-Some.is)
    (like-some c.args.self.now c.equal.new.self c.args.place c.in-Some.first t
    (subst (λ x. Equates c.args.self.now c.args.place (type_of x) t c.equal.new.self (Ok tt)) c.deref.ensures
    (subst (λ x. Equates c.args.self.now c.args.place (type_of c.deref.result.now) (type_of x) c.equal.new.self (Ok tt)) c.deref-in-Some.ensures c.in_ok-equal-in-Some.ensures)))
