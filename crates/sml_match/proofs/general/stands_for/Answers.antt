use Rattle.std.proofs.Common.{option_map, ap}
use Rattle.sml_objects.specs.Views.{type_of}
use Rattle.sml_match.proofs.Becoming.{stands-as, stands-plain, stands-equal}
use Rattle.sml_match.proofs.general.stands_for.Goals as goal

pub returns-in-Some : goal.returns-in-Some
returns-in-Some c = λ k l g.
    stands-as c.args.attributes.now c.args.images.now c.args.variable c.index-images-index-2.result l (type_of c.args.wanted.now) (type_of c.in-Some.image.now)
    (ap (option_map (λ t. type_of t.now)) c.in-Some.is) k g c.same_type.result c.same_type.ensures.yes c.same_type.ensures.no

pub returns-then-not-equality : goal.returns-then-not-equality
returns-then-not-equality c = λ k l g.
    stands-plain c.args.attributes.now c.args.images.now c.args.variable c.index-images-index.result c.index-images-index-2.result l c.in-None.is c.args.wanted g c.if-not-equality.true

pub returns-else-not-equality : goal.returns-else-not-equality
returns-else-not-equality c = λ k l g.
    stands-equal c.args.attributes.now c.args.images.now c.args.variable c.index-images-index.result c.index-images-index-2.result l c.in-None.is c.args.wanted g c.admits_equality_under.result
    c.if-not-equality.false (c.admits_equality_under.ensures.known g)
