use Rattle.std.proofs.Common.{sym, subst, ◌≡◌, map}
use Rattle.sml_objects.specs.Types.{instance_from}
use Rattle.sml_objects.specs.Views.{type_of}
use Rattle.sml_objects.specs.declared.objects.MlType.{MlType}
use Rattle.sml_objects.proofs.TypeViews.{parts_of}
use Rattle.sml_objects.proofs.Instances.{kept-free, kept-row, kept-arrow, kept-name}
use Rattle.sml_objects.proofs.schemes.+has_bound.Goals as goal

pub has_bound-returns-in-Free : goal.has_bound-returns-in-Free
has_bound-returns-in-Free t c = λ h k.
    subst (λ (u : MlType). instance_from k (type_of u) ≡ type_of u) (sym c.in-Free.is) (kept-free k c.in-Free.field-0)

pub has_bound-returns-in-Row : goal.has_bound-returns-in-Row
has_bound-returns-in-Row t c = λ h k.
    subst (λ (u : MlType). instance_from k (type_of u) ≡ type_of u) (sym c.in-Row.is)
    (kept-row k c.in-Row.field-0 c.in-Row.parts (subst (λ ts. map (λ t. instance_from k (type_of t.value)) ts ≡ parts_of ts) c.deref.ensures.value (c.have_bound.ensures h k)))

pub has_bound-returns-else-has_bound : goal.has_bound-returns-else-has_bound
has_bound-returns-else-has_bound t c = λ h k.
    subst (λ (u : MlType). instance_from k (type_of u) ≡ type_of u) (sym c.in-Arrow.is)
    (kept-arrow k c.in-Arrow.from c.in-Arrow.to
    (subst (λ (u : MlType). instance_from k (type_of u) ≡ type_of u) c.deref-in-Arrow.ensures (c.has_bound.ensures c.if-has_bound.false k))
    (subst (λ (u : MlType). instance_from k (type_of u) ≡ type_of u) c.deref-else-has_bound.ensures (c.has_bound-else-has_bound.ensures h k)))

pub has_bound-returns-in-Name : goal.has_bound-returns-in-Name
has_bound-returns-in-Name t c = λ h k.
    subst (λ (u : MlType). instance_from k (type_of u) ≡ type_of u) (sym c.in-Name.is)
    (kept-name k c.in-Name.field-0 c.in-Name.parts (subst (λ ts. map (λ t. instance_from k (type_of t.value)) ts ≡ parts_of ts) c.deref-in-Name.ensures.value (c.have_bound-in-Name.ensures h k)))
