use Rattle.std.proofs.Common.{◌≡◌, ◌+◌, ◌++◌, ◌∷◌, [], length, map, ap, sym, ◌∙◌, arith, refl, vec_len}
use Rattle.std.proofs.lemmas.List.{length-map}
use Rattle.sml_objects.specs.Objects as O
use Rattle.sml_objects.specs.Views.{type_of, label_list, row_of}
use Rattle.sml_objects.proofs.TypeViews.{parts_of, type_of-bound, type_of-free, type_of-row, type_of-arrow, type_of-name}
use Rattle.sml_graph.specs.declared.node.Head.TheVariants.{Row, Arrow, Name}
use Rattle.sml_graph.specs.Interned.{numbers, seen}
use Rattle.sml_graph.proofs.Interning.{not-bound, free-over, expands-head, expands-unknown, append-next, two-places}
use Rattle.sml_graph.proofs.intern.node_for.Goals as goal

pub unreachable-requires : goal.unreachable-requires
unreachable-requires c = not-bound (length c.args.unknowns.now) c.in-Bound.field-0 (type_of c.args.ty.now) (ap type_of c.in-Bound.is ∙ type_of-bound c.in-Bound.field-0) c.requires

pub bounds-unknowns-unknown : goal.bounds-unknowns-unknown
bounds-unknowns-unknown c = free-over (length c.args.unknowns.now) c.in-Free.unknown (type_of c.args.ty.now) (ap type_of c.in-Free.is ∙ type_of-free c.in-Free.unknown) c.requires

pub returns-in-Free : goal.returns-in-Free
returns-in-Free c =
    let e : type_of c.args.ty.now ≡ O.free c.in-Free.unknown = ap type_of c.in-Free.is ∙ type_of-free c.in-Free.unknown in
    expands-unknown (type_of c.args.ty.now) c.args.unknowns.now (c.args.base + vec_len c.args.types.now) c.in-Free.unknown _ (seen c.args.types.now.items) (free-over (length c.args.unknowns.now) c.in-Free.unknown (type_of c.args.ty.now) e c.requires) e refl

pub returns-in_ok-kids-in-Row : goal.returns-in_ok-kids-in-Row
returns-in_ok-kids-in-Row c =
    let more = parts_of c.in-Row.parts.items in
    let k = c.args.base + vec_len c.args.types.now in
    let same : map (λ t. type_of t.value) c.deref.result.now ≡ more = ap parts_of c.deref.ensures.value in
    let n : length c.deref.result.now ≡ length more = ap length c.deref.ensures.value ∙ sym (length-map c.in-Row.parts.items (λ t. type_of t.value)) in
    expands-head (type_of c.args.ty.now) c.args.unknowns.now k (Row c.in_ok-own-in-Row.own) c.in_ok-kids-in-Row.kids (seen c.args.types.now.items) (seen c.places_for.new.types.items) more
    (ap type_of c.in-Row.is ∙ (type_of-row c.in-Row.labels c.in-Row.parts ∙ ap (λ ls. row_of (label_list ls) more) (sym c.in_ok-own-in-Row.ensures.cases)))
    (c.in_ok-kids-in-Row.ensures.places ∙ ap (numbers k) n)
    tt
    (c.in_ok-kids-in-Row.ensures.types ∙ ap (λ xs. seen c.args.types.now.items ++ xs) same)

pub returns-in_ok-push-in-Arrow-2 : goal.returns-in_ok-push-in-Arrow-2
returns-in_ok-push-in-Arrow-2 c =
    let a = type_of c.in-Arrow.from.value in
    let b = type_of c.in-Arrow.to.value in
    let k = c.args.base + vec_len c.args.types.now in
    let one : seen c.place_for.new.types.items ≡ seen c.args.types.now.items ++ a ∷ [] = c.in_ok-place_for-in-Arrow.ensures.types ∙ ap (λ x. seen c.args.types.now.items ++ type_of x ∷ []) c.deref-in-Arrow.ensures in
    let two : seen c.place_for-in-Arrow.new.types.items ≡ seen c.place_for.new.types.items ++ b ∷ [] = c.in_ok-place_for-in-Arrow-2.ensures.types ∙ ap (λ x. seen c.place_for.new.types.items ++ type_of x ∷ []) c.deref-in-Arrow-2.ensures in
    expands-head (type_of c.args.ty.now) c.args.unknowns.now k Arrow c.push-in-Arrow.new.self (seen c.args.types.now.items) (seen c.place_for-in-Arrow.new.types.items) (a ∷ b ∷ [])
    (ap type_of c.in-Arrow.is ∙ type_of-arrow c.in-Arrow.from c.in-Arrow.to)
    (two-places c.new-kids.result.items c.push.new.self.items c.push-in-Arrow.new.self.items k c.in_ok-place_for-in-Arrow.field-0 c.in_ok-place_for-in-Arrow-2.field-0 c.new-kids.ensures.items c.in_ok-push-in-Arrow.ensures.ok c.in_ok-push-in-Arrow-2.ensures.ok c.in_ok-place_for-in-Arrow.ensures.place (omega (arith, c.in_ok-place_for-in-Arrow-2.ensures.place, c.in_ok-place_for-in-Arrow.ensures.len)))
    refl
    (append-next (seen c.place_for-in-Arrow.new.types.items) (seen c.place_for.new.types.items) (seen c.args.types.now.items) (a ∷ []) b (a ∷ b ∷ []) two one refl)

pub returns-in_ok-kids-in-Name : goal.returns-in_ok-kids-in-Name
returns-in_ok-kids-in-Name c =
    let more = parts_of c.in-Name.parts.items in
    let k = c.args.base + vec_len c.args.types.now in
    let same : map (λ t. type_of t.value) c.deref-in-Name.result.now ≡ more = ap parts_of c.deref-in-Name.ensures.value in
    let n : length c.deref-in-Name.result.now ≡ length more = ap length c.deref-in-Name.ensures.value ∙ sym (length-map c.in-Name.parts.items (λ t. type_of t.value)) in
    expands-head (type_of c.args.ty.now) c.args.unknowns.now k (Name c.in-Name.name) c.in_ok-kids-in-Name.kids (seen c.args.types.now.items) (seen c.places_for-in-Name.new.types.items) more
    (ap type_of c.in-Name.is ∙ type_of-name c.in-Name.name c.in-Name.parts)
    (c.in_ok-kids-in-Name.ensures.places ∙ ap (numbers k) n)
    tt
    (c.in_ok-kids-in-Name.ensures.types ∙ ap (λ xs. seen c.args.types.now.items ++ xs) same)
