use Rattle.std.proofs.Common.{◌≡◌, ◌∷◌, [], ◌++◌, length, reverse, map, ap, subst, ◌∙◌, arith, drop}
use Rattle.sml_objects.specs.Objects as O
use Rattle.sml_objects.specs.Sizes.{type_size}
use Rattle.sml_objects.specs.Views.{type_of}
use Rattle.sml_objects.proofs.TypeViews.{type_of-free}
use Rattle.sml_graph.specs.declared.node.Node.TheVariants.{App}
use Rattle.sml_graph.specs.declared.cell.Shape.TheVariants as S
use Rattle.sml_graph.specs.CodeCells.{head_of, IsShape}
use Rattle.sml_demands.specs.declared.reading.Task.TheVariants.{Read, Apply}
use Rattle.sml_graph.specs.Graphs.{node_at, IsRootNode, IsSoundNode, IsKnown}
use Rattle.sml_demands.specs.CodeReads.{stacked, heads, IsReadingOn}
use Rattle.sml_graph.proofs.Searching.{read_at}
use Rattle.sml_demands.proofs.Counting.{positive}
use Rattle.sml_demands.proofs.Marking.{type-sizes, too-large}
use Rattle.sml_demands.proofs.Retrieving.{not-app-known, reverse-push, stacked-push, length-stacked, reading-first, reading-unknown, reading-app, reading-enough, reading-apply, empty, reading-found, reading-none, reverse-reads, heads-app}
use Rattle.sml_demands.proofs.reading.type_up_to.Goals as goal

pub loop-task-init : goal.loop-task-init
loop-task-init c = record {
  on = reading-first c.args.nodes.now c.args.unknowns.now c.args.root _ _ c.requires.inside (ap reverse (c.in_ok-push.ensures.items ∙ ap (λ xs. xs ++ Read c.args.root ∷ []) c.new-tasks.ensures.items)) (ap stacked c.new-types.ensures.items);
  within = omega arith;
}

pub returns-then-limit-size-clause-large : goal.returns-then-limit-size-clause-large
returns-then-limit-size-clause-large c τ m =
    let q : reverse c.loop-task.tasks.items ≡ Read c.in-Read.at ∷ reverse c.pop.new.self.items = ap reverse c.in-Some.ensures.items ∙ (reverse-push c.pop.new.self.items c.in-Some.task ∙ ap (λ k. k ∷ reverse c.pop.new.self.items) c.in-Read.is) in
    let r : IsReadingOn c.args.nodes.now c.args.unknowns.now c.args.root c.loop-task.size (Read c.in-Read.at ∷ reverse c.pop.new.self.items) (stacked c.loop-task.types.items) = rw q at c.loop-task.invariant.on in
    let z = r.less (λ i. type_size (τ i)) (type-sizes c.args.nodes.now τ m) in
    let p = positive (τ c.in-Read.at) in
    omega (arith, z, p, c.if-limit-size.true)

pub returns-then-limit-size-clause-none : goal.returns-then-limit-size-clause-none
returns-then-limit-size-clause-none c =
    let q : reverse c.loop-task.tasks.items ≡ Read c.in-Read.at ∷ reverse c.pop.new.self.items = ap reverse c.in-Some.ensures.items ∙ (reverse-push c.pop.new.self.items c.in-Some.task ∙ ap (λ k. k ∷ reverse c.pop.new.self.items) c.in-Read.is) in
    let r : IsReadingOn c.args.nodes.now c.args.unknowns.now c.args.root c.loop-task.size (Read c.in-Read.at ∷ reverse c.pop.new.self.items) (stacked c.loop-task.types.items) = rw q at c.loop-task.invariant.on in
    too-large c.args.nodes.now c.args.unknowns.now c.args.root c.loop-task.size c.args.limit c.in-Read.at (reverse c.pop.new.self.items) (stacked c.loop-task.types.items) c.requires.owners c.requires.rank r c.if-limit-size.true

pub loop-task-smaller-in_ok-push_reads-in-App : goal.loop-task-smaller-in_ok-push_reads-in-App
loop-task-smaller-in_ok-push_reads-in-App c =
    let q : reverse c.loop-task.tasks.items ≡ Read c.in-Read.at ∷ reverse c.pop.new.self.items = ap reverse c.in-Some.ensures.items ∙ (reverse-push c.pop.new.self.items c.in-Some.task ∙ ap (λ k. k ∷ reverse c.pop.new.self.items) c.in-Read.is) in
    let p = reverse-reads c.pop.new.self.items c.push-in-App.new.self.items c.push_reads.new.tasks.items (Apply c.in_ok-copy_of-in-App.field-0 (length c.in-App.kids.now)) c.in-App.kids.now c.in_ok-push-in-App.ensures.items c.in_ok-push_reads-in-App.ensures in
    let a = ap heads q in
    let b = ap heads p ∙ heads-app c.in-App.kids.now c.in_ok-copy_of-in-App.field-0 (length c.in-App.kids.now) (reverse c.pop.new.self.items) in
    omega (arith, a, b, c.if-limit-size.false)

pub loop-task-preserved-in_ok-push_reads-in-App : goal.loop-task-preserved-in_ok-push_reads-in-App
loop-task-preserved-in_ok-push_reads-in-App c =
    let ns = c.args.nodes.now in
    let here = c.root_of-here.result in
    let shape : IsShape c.index-nodes-here.result (S.App c.in-App.head c.in-App.kids) = rw c.in-App.is at c.shape.ensures in
    let h = head_of c.in-App.head in
    let kids = shape.0 in
    let copy = c.in_ok-copy_of-in-App.field-0 in
    let q : reverse c.loop-task.tasks.items ≡ Read c.in-Read.at ∷ reverse c.pop.new.self.items = ap reverse c.in-Some.ensures.items ∙ (reverse-push c.pop.new.self.items c.in-Some.task ∙ ap (λ k. k ∷ reverse c.pop.new.self.items) c.in-Read.is) in
    let r : IsReadingOn ns c.args.unknowns.now c.args.root c.loop-task.size (Read c.in-Read.at ∷ reverse c.pop.new.self.items) (stacked c.loop-task.types.items) = rw q at c.loop-task.invariant.on in
    let e : node_at ns here ≡ App h kids = read_at ns here c.index-nodes-here.result c.root_of-here.ensures.inside c.index-nodes-here.is ∙ shape.1 in
    let s : IsSoundNode (length ns) here (App h kids) = rw e at (c.requires.sound here) in
    let n : length c.in-App.kids.now ≡ length kids.items = ap length shape.2 in
    let p : reverse c.push_reads.new.tasks.items ≡ reverse (map Read kids.items) ++ Apply copy (length kids.items) ∷ reverse c.pop.new.self.items =
    reverse-reads c.pop.new.self.items c.push-in-App.new.self.items c.push_reads.new.tasks.items (Apply copy (length kids.items)) kids.items (c.in_ok-push-in-App.ensures.items ∙ ap (λ k. c.pop.new.self.items ++ Apply copy k ∷ []) n) (c.in_ok-push_reads-in-App.ensures ∙ ap (λ is. c.push-in-App.new.self.items ++ map Read is) shape.2) in
    record {
      on = reading-app ns c.args.unknowns.now c.args.root c.loop-task.size (reverse c.pop.new.self.items) (reverse c.push_reads.new.tasks.items) (stacked c.loop-task.types.items) c.in-Read.at here h copy kids r c.root_of-here.ensures.same e s c.in_ok-copy_of-in-App.ensures.over c.in_ok-copy_of-in-App.ensures.count p;
      within = c.if-limit-size.false;
    }

pub loop-task-preserved-in_ok-push-in_default-shape : goal.loop-task-preserved-in_ok-push-in_default-shape
loop-task-preserved-in_ok-push-in_default-shape c =
    let ns = c.args.nodes.now in
    let us = c.args.unknowns.now in
    let here = c.root_of-here.result in
    let v = c.owner.result in
    let q : reverse c.loop-task.tasks.items ≡ Read c.in-Read.at ∷ reverse c.pop.new.self.items = ap reverse c.in-Some.ensures.items ∙ (reverse-push c.pop.new.self.items c.in-Some.task ∙ ap (λ k. k ∷ reverse c.pop.new.self.items) c.in-Read.is) in
    let r : IsReadingOn ns us c.args.root c.loop-task.size (Read c.in-Read.at ∷ reverse c.pop.new.self.items) (stacked c.loop-task.types.items) = rw q at c.loop-task.invariant.on in
    let e = read_at ns here c.index-nodes-here.result c.root_of-here.ensures.inside c.index-nodes-here.is in
    let root : IsRootNode c.index-nodes-here.result = rw e at c.root_of-here.ensures.root in
    let k : IsKnown (node_at ns here) → ⊥ = λ q. not-app-known c.index-nodes-here.result c.shape.result c.shape.ensures root c.in_default-shape.not-App (subst IsKnown e q) in
    let t : stacked c.push-in_default-shape.new.self.items ≡ O.free v ∷ stacked c.loop-task.types.items = ap stacked c.in_ok-push-in_default-shape.ensures.items ∙ (stacked-push c.loop-task.types.items c.in_ok-new-in_default-shape.field-0 ∙ ap (λ t. t ∷ stacked c.loop-task.types.items) (ap type_of c.in_ok-new-in_default-shape.ensures.ok ∙ type_of-free v)) in
    record {
      on = rw t (reading-unknown ns us c.args.root c.loop-task.size (reverse c.pop.new.self.items) (stacked c.loop-task.types.items) c.in-Read.at here v r c.root_of-here.ensures.same k c.owner.ensures.known c.owner.ensures.place);
      within = c.if-limit-size.false;
    }

pub apply-requires-clause-enough : goal.apply-requires-clause-enough
apply-requires-clause-enough c =
    let q : reverse c.loop-task.tasks.items ≡ Apply c.in-Apply.head c.in-Apply.count ∷ reverse c.pop.new.self.items = ap reverse c.in-Some.ensures.items ∙ (reverse-push c.pop.new.self.items c.in-Some.task ∙ ap (λ k. k ∷ reverse c.pop.new.self.items) c.in-Apply.is) in
    let r : IsReadingOn c.args.nodes.now c.args.unknowns.now c.args.root c.loop-task.size (Apply c.in-Apply.head c.in-Apply.count ∷ reverse c.pop.new.self.items) (stacked c.loop-task.types.items) = rw q at c.loop-task.invariant.on in
    let n = length-stacked c.loop-task.types.items in
    let l = reading-enough c.args.nodes.now c.args.unknowns.now c.args.root c.loop-task.size (reverse c.pop.new.self.items) (stacked c.loop-task.types.items) c.in-Apply.head c.in-Apply.count c.requires.rank r in
    omega (arith, n, l)

pub loop-task-preserved : goal.loop-task-preserved
loop-task-preserved c =
    let ns = c.args.nodes.now in
    let us = c.args.unknowns.now in
    let ts = stacked c.loop-task.types.items in
    let q : reverse c.loop-task.tasks.items ≡ Apply c.in-Apply.head c.in-Apply.count ∷ reverse c.pop.new.self.items = ap reverse c.in-Some.ensures.items ∙ (reverse-push c.pop.new.self.items c.in-Some.task ∙ ap (λ k. k ∷ reverse c.pop.new.self.items) c.in-Apply.is) in
    let r : IsReadingOn ns us c.args.root c.loop-task.size (Apply c.in-Apply.head c.in-Apply.count ∷ reverse c.pop.new.self.items) ts = rw q at c.loop-task.invariant.on in
    let t = type_of c.in_ok-ty-in-Apply.ty.value in
    let s : stacked c.push-in-Apply.new.self.items ≡ t ∷ drop c.in-Apply.count ts = ap stacked c.in_ok-push-in-Apply.ensures.items ∙ (stacked-push c.apply.new.types.items c.in_ok-ty-in-Apply.ty ∙ ap (λ xs. t ∷ xs) c.in_ok-ty-in-Apply.ensures.rest) in
    record {
      on = reading-apply ns us c.args.root c.loop-task.size (reverse c.pop.new.self.items) ts (stacked c.push-in-Apply.new.self.items) c.in-Apply.head c.in-Apply.count t r c.in_ok-ty-in-Apply.ensures.ty s;
      within = c.loop-task.invariant.within;
    }

pub returns-clause-ty : goal.returns-clause-ty
returns-clause-ty c =
    let q : reverse c.loop-task.tasks.items ≡ [] = ap reverse (empty c.loop-task.tasks.items (omega (arith, c.in_default.ensures.len, c.in_default.ensures.cases.0))) in
    let r : IsReadingOn c.args.nodes.now c.args.unknowns.now c.args.root c.loop-task.size [] (stacked c.loop-task.types.items) = rw q at c.loop-task.invariant.on in
    reading-found c.args.nodes.now c.args.unknowns.now c.args.root c.loop-task.size c.args.limit c.loop-task.types.items c.pop-2.new.self.items c.pop-2.result r c.pop-2.ensures.items c.loop-task.invariant.within

pub returns-clause-large : goal.returns-clause-large
returns-clause-large c =
    let q : reverse c.loop-task.tasks.items ≡ [] = ap reverse (empty c.loop-task.tasks.items (omega (arith, c.in_default.ensures.len, c.in_default.ensures.cases.0))) in
    let r : IsReadingOn c.args.nodes.now c.args.unknowns.now c.args.root c.loop-task.size [] (stacked c.loop-task.types.items) = rw q at c.loop-task.invariant.on in
    reading-none c.args.nodes.now c.args.unknowns.now c.args.root c.loop-task.size c.loop-task.types.len c.loop-task.types.items c.pop-2.result _ c.requires.rank r (omega arith) c.pop-2.ensures.variant.1

pub returns-clause-none : goal.returns-clause-none
returns-clause-none c =
    let q : reverse c.loop-task.tasks.items ≡ [] = ap reverse (empty c.loop-task.tasks.items (omega (arith, c.in_default.ensures.len, c.in_default.ensures.cases.0))) in
    let r : IsReadingOn c.args.nodes.now c.args.unknowns.now c.args.root c.loop-task.size [] (stacked c.loop-task.types.items) = rw q at c.loop-task.invariant.on in
    reading-none c.args.nodes.now c.args.unknowns.now c.args.root c.loop-task.size c.loop-task.types.len c.loop-task.types.items c.pop-2.result _ c.requires.rank r (omega arith) c.pop-2.ensures.variant.1
