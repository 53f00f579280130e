use Rattle.std.proofs.Common.{◌≡◌, ◌&&◌, Bool, true, ap, sym, ◌∙◌, refl}
use Rattle.std.specs.List.{list_all}
use Rattle.sml_objects.specs.Objects.{types_of}
use Rattle.sml_objects.specs.Views.{type_of, name_of}
use Rattle.sml_objects.specs.Equality.{is_reference_name, all_admit_by}
use Rattle.sml_objects.specs.Initial.{attributes_of}
use Rattle.sml_objects.proofs.TypeViews.{parts_of}
use Rattle.sml_equality.specs.Runs.{admits_in, kept_or, type_admits}
use Rattle.sml_equality.proofs.Needing.{all_end, one_more, same_answer, row_admits, applied, then_both}
use Rattle.sml_equality.proofs.needs.+admits.Goals as goal

pub may_admit-returns-in-Row-clause-kept : goal.may_admit-returns-in-Row-clause-kept
may_admit-returns-in-Row-clause-kept t c =
    let r = c.args.run.now in
    same_answer c.all_may_admit.result (λ b h kept.
    h kept
    ∙ ap (λ ts. list_all kept c.args.needs.now.items && all_admit_by is_reference_name (λ _. true) (admits_in r kept) (types_of (parts_of ts))) c.deref.ensures.value
    ∙ ap (λ x. list_all kept c.args.needs.now.items && x) (sym (ap (λ u. type_admits r kept (type_of u)) c.in-Row.is ∙ row_admits r kept c.in-Row.field-0 c.in-Row.parts))) c.all_may_admit.ensures.kept

pub may_admit-returns-in_ok-push-in-Some-clause-kept : goal.may_admit-returns-in_ok-push-in-Some-clause-kept
may_admit-returns-in_ok-push-in-Some-clause-kept t c =
    let r = c.args.run.now in
    let old = c.args.needs.now.items in
    let k = c.in-Some.index in
    let n = c.in-Name.name in
    same_answer c.all_may_admit-in-Some.result (λ b h kept.
    let all : Bool = all_admit_by is_reference_name (λ _. true) (admits_in r kept) (types_of (parts_of c.in-Name.parts.items)) in
    let here : admits_in r kept (name_of n) ≡ kept k = ap (kept_or kept (attributes_of (name_of n)).equality) (sym c.in-Some.ensures.place) in
    then_both (list_all kept old) (kept k) all _ _ _
    (all_end kept old _ k c.in_ok-push-in-Some.ensures.items)
    (h kept ∙ ap (λ ts. list_all kept c.push.new.self.items && all_admit_by is_reference_name (λ _. true) (admits_in r kept) (types_of (parts_of ts))) c.deref-in-Some.ensures.value)
    (applied r kept c.args.ty.now n c.in-Name.parts (kept k) c.in-Name.is (sym c.if-is_reference.ensures) here)) c.all_may_admit-in-Some.ensures.kept

pub may_admit-returns-then-has_equality-clause-kept : goal.may_admit-returns-then-has_equality-clause-kept
may_admit-returns-then-has_equality-clause-kept t c =
    let r = c.args.run.now in
    let old = c.args.needs.now.items in
    let n = c.in-Name.name in
    same_answer c.all_may_admit-then-has_equality.result (λ b h kept.
    let here : admits_in r kept (name_of n) ≡ true = ap (kept_or kept (attributes_of (name_of n)).equality) (sym c.in-None.ensures.place) ∙ sym c.if-has_equality.ensures in
    h kept
    ∙ ap (λ ts. list_all kept old && all_admit_by is_reference_name (λ _. true) (admits_in r kept) (types_of (parts_of ts))) c.deref-then-has_equality.ensures.value
    ∙ ap (λ x. list_all kept old && x) (sym (applied r kept c.args.ty.now n c.in-Name.parts true c.in-Name.is (sym c.if-is_reference.ensures) here))) c.all_may_admit-then-has_equality.ensures.kept

pub all_may_admit-loop-part-preserved : goal.all_may_admit-loop-part-preserved
unfolding all_admit_by
all_may_admit-loop-part-preserved t c =
    let r = c.args.run.now in
    let x = c.part-item.result in
    record {
      left = one_more (λ kept ts. all_admit_by is_reference_name (λ _. true) (admits_in r kept) (types_of (parts_of ts))) c.args.parts.now c.loop-part.part-index x x
          (λ kept. type_admits r kept (type_of x.value)) (λ kept. list_all kept c.loop-part.needs.items) (λ kept. list_all kept c.may_admit.new.needs.items) (λ kept. list_all kept c.args.needs.now.items && all_admit_by is_reference_name (λ _. true) (admits_in r kept) (types_of (parts_of c.args.parts.now)))
          (λ kept rest. refl) c.loop-part-test.true (sym c.part-item.is) c.loop-part.invariant.left
          (λ kept. ap (λ b. list_all kept c.may_admit.new.needs.items && b) (sym c.if-not-branch.false) ∙ c.in_ok-may_admit.ensures.kept kept ∙ ap (λ u. list_all kept c.loop-part.needs.items && type_admits r kept (type_of u)) c.deref.ensures);
      inside = λ h. c.in_ok-may_admit.ensures.inside (c.loop-part.invariant.inside h);
    }
