use Rattle.std.proofs.Common.{rules, ◌≡◌, ◌<◌, true, false, length, ap, sym, subst, ◌∙◌}
use mathlib.Core.Bool.{true≢false}
use Rattle.sml_objects.specs.Objects.{app, row, name, types_of}
use Rattle.sml_objects.specs.Views.{label_list, name_of, row_of, type_of}
use Rattle.sml_objects.proofs.NameTests.{eq-same, same-eq}
use Rattle.sml_objects.proofs.SameTypes.{kind, kind-row, kind-arrow, kind-name, only-row, only-arrow, only-name}
use Rattle.sml_objects.proofs.TypeViews.{parts_of, type_of-bound, type_of-free, type_of-row, type_of-arrow, type_of-name}
use Rattle.sml_match.specs.General.{Becomes, MakeOne}
use Rattle.sml_match.proofs.Making.{over-bound, parts-made, arrow-then, arrow-else, never-kind, never-free, row-same, name-same, MakeFirst, stepped, part-over, part-known, all-made, none-made, never-lengths, one-more, not-more, never-heads, bound-made}
use Rattle.sml_match.proofs.general.+becomes.Goals as goal

-- src/general.rt:112:9
pub become_all-returns-then-parts-wanted : goal.become_all-returns-then-parts-wanted
become_all-returns-then-parts-wanted t c =
    λ k b g. never-lengths c.args.attributes.now c.args.images.now c.args.parts.now c.args.wanted.now c.if-parts-wanted.true

-- src/general.rt:114:5
pub become_all-loop-index-init : goal.become_all-loop-index-init
become_all-loop-index-init t c =
    λ k b g. none-made c.args.attributes.now c.args.images.now c.args.parts.now c.args.wanted.now

-- src/general.rt:116:13
pub become_all-returns-then-not-becomes : goal.become_all-returns-then-not-becomes
become_all-returns-then-not-becomes t c =
    λ k b g.
    let l : c.loop-index.index < length c.args.parts.now = search rules in
    let m : c.loop-index.index < length c.args.wanted.now = search rules in
    let h = c.loop-index.invariant k b g in
    not-more c.args.attributes.now c.args.images.now c.args.parts.now c.args.wanted.now c.if-parts-wanted.false c.loop-index.images c.becomes.new.images c.loop-index.index c.index-parts-index.result c.index-wanted-index.result l m c.index-parts-index.is c.index-wanted-index.is h
    (stepped c.args.attributes.now (MakeFirst c.args.attributes.now c.args.images.now c.args.parts.now c.args.wanted.now c.loop-index.index) c.args.images.now c.loop-index.images c.becomes.new.images
    c.index-parts-index.result.value c.index-wanted-index.result.value c.deref.result.now c.deref-in-loop-index.result.now c.becomes.result false c.deref.ensures c.deref-in-loop-index.ensures k
    (part-over (length c.args.images.now) c.args.parts.now c.loop-index.index c.index-parts-index.result l c.index-parts-index.is b)
    (part-known c.args.wanted.now c.loop-index.index c.index-wanted-index.result m c.index-wanted-index.is g) h c.becomes.ensures c.if-not-becomes.true)

-- src/general.rt:114:5
pub become_all-loop-index-preserved : goal.become_all-loop-index-preserved
become_all-loop-index-preserved t c =
    λ k b g.
    let l : c.loop-index.index < length c.args.parts.now = search rules in
    let m : c.loop-index.index < length c.args.wanted.now = search rules in
    let h = c.loop-index.invariant k b g in
    one-more c.args.attributes.now c.args.images.now c.args.parts.now c.args.wanted.now c.if-parts-wanted.false c.loop-index.images c.becomes.new.images c.loop-index.index c.index-parts-index.result c.index-wanted-index.result l m c.index-parts-index.is c.index-wanted-index.is true h
    (stepped c.args.attributes.now (MakeFirst c.args.attributes.now c.args.images.now c.args.parts.now c.args.wanted.now c.loop-index.index) c.args.images.now c.loop-index.images c.becomes.new.images
    c.index-parts-index.result.value c.index-wanted-index.result.value c.deref.result.now c.deref-in-loop-index.result.now c.becomes.result true c.deref.ensures c.deref-in-loop-index.ensures k
    (part-over (length c.args.images.now) c.args.parts.now c.loop-index.index c.index-parts-index.result l c.index-parts-index.is b)
    (part-known c.args.wanted.now c.loop-index.index c.index-wanted-index.result m c.index-wanted-index.is g) h c.becomes.ensures c.if-not-becomes.false)

-- src/general.rt:101:1
pub become_all-returns : goal.become_all-returns
become_all-returns t c =
    λ k b g. all-made c.args.attributes.now c.args.images.now c.args.parts.now c.args.wanted.now c.loop-index.images c.loop-index.index (search rules) (search rules) (c.loop-index.invariant k b g)

-- src/general.rt:75:1
pub becomes-returns-in-Bound-default : goal.becomes-returns-in-Bound-default
becomes-returns-in-Bound-default t c =
    λ k b g.
    let e = ap type_of c.in-Bound-default.is-0 ∙ type_of-bound c.in-Bound-default.variable in
    bound-made c.args.attributes.now c.args.images.now c.stands_for.new.images (type_of c.args.ty.now) (type_of c.args.wanted.now) c.in-Bound-default.variable c.stands_for.result e (c.stands_for.ensures k (over-bound (length c.args.images.now) (type_of c.args.ty.now) c.in-Bound-default.variable e b) g)

-- src/general.rt:75:1
pub becomes-returns-then-are_same : goal.becomes-returns-then-are_same
becomes-returns-then-are_same t c =
    λ k b g.
    let same = (ap label_list (sym c.deref.ensures) ∙ c.if-are_same.ensures.yes (search rules) ∙ ap label_list c.deref-in-Row-Row.ensures) in
    parts-made c.args.attributes.now c.args.images.now c.args.images.now c.become_all.new.images (type_of c.args.ty.now) (type_of c.args.wanted.now) k b g (row (label_list c.in-Row-Row.wanted_labels.value)) c.in-Row-Row.parts.items c.in-Row-Row.wanted.items
    c.deref-then-are_same.result.now c.deref-then-are_same-2.result.now c.become_all.result
    (ap type_of c.in-Row-Row.is-0 ∙ type_of-row c.in-Row-Row.labels c.in-Row-Row.parts ∙ ap (λ ls. row_of ls (parts_of c.in-Row-Row.parts.items)) same)
    (ap type_of c.in-Row-Row.is-1 ∙ type_of-row c.in-Row-Row.wanted_labels c.in-Row-Row.wanted) c.deref-then-are_same.ensures.value c.deref-then-are_same-2.ensures.value c.become_all.ensures

-- src/general.rt:75:1
pub becomes-returns-else-are_same : goal.becomes-returns-else-are_same
becomes-returns-else-are_same t c =
    λ k b g.
    subst (λ b. Becomes c.args.attributes.now c.args.images.now (MakeOne (type_of c.args.ty.now) (type_of c.args.wanted.now)) b c.args.images.now) (sym c.if-are_same.false)
    (never-heads c.args.attributes.now c.args.images.now (type_of c.args.ty.now) (type_of c.args.wanted.now) (row (label_list c.in-Row-Row.labels.value)) (row (label_list c.in-Row-Row.wanted_labels.value)) (types_of (parts_of c.in-Row-Row.parts.items)) (types_of (parts_of c.in-Row-Row.wanted.items))
    (ap type_of c.in-Row-Row.is-0 ∙ type_of-row c.in-Row-Row.labels c.in-Row-Row.parts) (ap type_of c.in-Row-Row.is-1 ∙ type_of-row c.in-Row-Row.wanted_labels c.in-Row-Row.wanted)
    (λ e. let i : label_list c.in-Row-Row.labels.value ≡ label_list c.in-Row-Row.wanted_labels.value = row-same e in
    c.if-are_same.ensures.no (search rules) (ap label_list c.deref.ensures ∙ i ∙ ap label_list (sym c.deref-in-Row-Row.ensures))))

-- src/general.rt:75:1
pub becomes-returns-then-becomes : goal.becomes-returns-then-becomes
becomes-returns-then-becomes t c =
    λ k b g.
    arrow-then c.args.attributes.now c.args.images.now c.becomes.new.images c.becomes-then-becomes.new.images (type_of c.args.ty.now) (type_of c.args.wanted.now) k b g c.in-Arrow-Arrow.from.value c.in-Arrow-Arrow.to.value c.in-Arrow-Arrow.wanted_from.value c.in-Arrow-Arrow.wanted_to.value
    (ap type_of c.in-Arrow-Arrow.is-0 ∙ type_of-arrow c.in-Arrow-Arrow.from c.in-Arrow-Arrow.to) (ap type_of c.in-Arrow-Arrow.is-1 ∙ type_of-arrow c.in-Arrow-Arrow.wanted_from c.in-Arrow-Arrow.wanted_to)
    c.deref-in-Arrow-Arrow.result.now c.deref-in-Arrow-Arrow-2.result.now c.deref-then-becomes.result.now c.deref-then-becomes-2.result.now c.becomes.result c.becomes-then-becomes.result
    c.deref-in-Arrow-Arrow.ensures c.deref-in-Arrow-Arrow-2.ensures c.deref-then-becomes.ensures c.deref-then-becomes-2.ensures c.becomes.ensures c.if-becomes.true c.becomes-then-becomes.ensures

-- src/general.rt:75:1
pub becomes-returns-else-becomes : goal.becomes-returns-else-becomes
becomes-returns-else-becomes t c =
    λ k b g.
    arrow-else c.args.attributes.now c.args.images.now c.becomes.new.images c.becomes.new.images (type_of c.args.ty.now) (type_of c.args.wanted.now) k b g c.in-Arrow-Arrow.from.value c.in-Arrow-Arrow.to.value c.in-Arrow-Arrow.wanted_from.value c.in-Arrow-Arrow.wanted_to.value
    (ap type_of c.in-Arrow-Arrow.is-0 ∙ type_of-arrow c.in-Arrow-Arrow.from c.in-Arrow-Arrow.to) (ap type_of c.in-Arrow-Arrow.is-1 ∙ type_of-arrow c.in-Arrow-Arrow.wanted_from c.in-Arrow-Arrow.wanted_to)
    c.deref-in-Arrow-Arrow.result.now c.deref-in-Arrow-Arrow-2.result.now c.becomes.result c.deref-in-Arrow-Arrow.ensures c.deref-in-Arrow-Arrow-2.ensures c.becomes.ensures c.if-becomes.false

-- src/general.rt:75:1
pub becomes-returns-then-eq : goal.becomes-returns-then-eq
becomes-returns-then-eq t c =
    λ k b g.
    parts-made c.args.attributes.now c.args.images.now c.args.images.now c.become_all-then-eq.new.images (type_of c.args.ty.now) (type_of c.args.wanted.now) k b g (name (name_of c.in-Name-Name.wanted_name)) c.in-Name-Name.parts.items c.in-Name-Name.wanted.items
    c.deref-then-eq.result.now c.deref-then-eq-2.result.now c.become_all-then-eq.result
    (ap type_of c.in-Name-Name.is-0 ∙ type_of-name c.in-Name-Name.name c.in-Name-Name.parts ∙ ap (λ n. app (name n) (types_of (parts_of c.in-Name-Name.parts.items))) (eq-same c.in-Name-Name.name c.in-Name-Name.wanted_name (search rules)))
    (ap type_of c.in-Name-Name.is-1 ∙ type_of-name c.in-Name-Name.wanted_name c.in-Name-Name.wanted) c.deref-then-eq.ensures.value c.deref-then-eq-2.ensures.value c.become_all-then-eq.ensures

-- src/general.rt:75:1
pub becomes-returns-else-eq : goal.becomes-returns-else-eq
becomes-returns-else-eq t c =
    λ k b g.
    subst (λ b. Becomes c.args.attributes.now c.args.images.now (MakeOne (type_of c.args.ty.now) (type_of c.args.wanted.now)) b c.args.images.now) (sym c.if-eq.false)
    (never-heads c.args.attributes.now c.args.images.now (type_of c.args.ty.now) (type_of c.args.wanted.now) (name (name_of c.in-Name-Name.name)) (name (name_of c.in-Name-Name.wanted_name)) (types_of (parts_of c.in-Name-Name.parts.items)) (types_of (parts_of c.in-Name-Name.wanted.items))
    (ap type_of c.in-Name-Name.is-0 ∙ type_of-name c.in-Name-Name.name c.in-Name-Name.parts) (ap type_of c.in-Name-Name.is-1 ∙ type_of-name c.in-Name-Name.wanted_name c.in-Name-Name.wanted)
    (λ e.
    let i : name_of c.in-Name-Name.name ≡ name_of c.in-Name-Name.wanted_name = name-same e in
    true≢false (sym (same-eq c.in-Name-Name.name c.in-Name-Name.wanted_name i) ∙ search rules)))

-- src/general.rt:75:1
pub becomes-returns-in_default : goal.becomes-returns-in_default
becomes-returns-in_default t c =
    λ k b g.
    never-kind c.args.attributes.now c.args.images.now (type_of c.args.ty.now) (type_of c.args.wanted.now) 3 (ap (λ t. kind (type_of t)) c.in_default.is-0 ∙ kind-row c.in_default.field-0-0 c.in_default.field-1-0) (search rules) (λ e. only-row c.args.wanted.now e c.in_default.not-Row-1)

-- src/general.rt:75:1
pub becomes-returns-in_default-2 : goal.becomes-returns-in_default-2
becomes-returns-in_default-2 t c =
    λ k b g.
    never-kind c.args.attributes.now c.args.images.now (type_of c.args.ty.now) (type_of c.args.wanted.now) 2 (ap (λ t. kind (type_of t)) c.in_default.is-0 ∙ kind-arrow c.in_default.field-0-0 c.in_default.field-1-0) (search rules) (λ e. only-arrow c.args.wanted.now e c.in_default.not-Arrow-1)

-- src/general.rt:75:1
pub becomes-returns-in_default-3 : goal.becomes-returns-in_default-3
becomes-returns-in_default-3 t c =
    λ k b g.
    never-kind c.args.attributes.now c.args.images.now (type_of c.args.ty.now) (type_of c.args.wanted.now) 4 (ap (λ t. kind (type_of t)) c.in_default.is-0 ∙ kind-name c.in_default.field-0-0 c.in_default.field-1-0) (search rules) (λ e. only-name c.args.wanted.now e c.in_default.not-Name-1)

-- src/general.rt:75:1
pub becomes-returns-in_default-4 : goal.becomes-returns-in_default-4
becomes-returns-in_default-4 t c =
    λ k b g.
    never-free c.args.attributes.now c.args.images.now (type_of c.args.ty.now) (type_of c.args.wanted.now) c.in_default.field-0-0 (ap type_of c.in_default.is-0 ∙ type_of-free c.in_default.field-0-0) b
