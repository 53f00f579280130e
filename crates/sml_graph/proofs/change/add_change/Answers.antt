use Rattle.std.proofs.Common.{◌≡◌, ◌<◌, ◌∷◌, [], ◌++◌, sym, ◌∙◌, ap, arith}
use Rattle.std.proofs.lemmas.List.{append-nil}
use Rattle.sml_graph.proofs.Changing.{all-none, adds-same, adds-after, later-after}
use Rattle.sml_graph.proofs.change.add_change.Goals as goal
use Rattle.sml_graph.proofs.change.add_change.Goals.{in-Some+else-last-change+in_ok-push-2, in_default}

pub returns-then-last-change : goal.returns-then-last-change
returns-then-last-change c = adds-same c.args.few.now.items c.push.new.self.items c.pop.new.self.items c.in-Some.last c.args.change c.earlier.result c.in-Some.ensures.items c.in_ok-push.ensures.items c.earlier.ensures.own c.earlier.ensures.other

pub returns : goal.returns
returns c =
    elim c.match-pop.branch [
      | in-Some+else-last-change+in_ok-push-2 w ↦
          let q : c.match-pop.few.items ≡ c.args.few.now.items = ap (λ v. v.items) w.few-is ∙ (w.in_ok-push-2.ensures.items ∙ sym w.in-Some.ensures.items) in
          adds-after c.args.few.now.items c.push-2.new.self.items c.args.change (c.in_ok-push-3.ensures.items ∙ ap (λ xs. xs ++ c.args.change ∷ []) q) (later-after c.args.few.now.items c.pop.new.self.items w.in-Some.last c.args.change w.in-Some.ensures.items w.if-last-change.false)
      | in_default w ↦ adds-after c.args.few.now.items c.push-2.new.self.items c.args.change (c.in_ok-push-3.ensures.items ∙ ap (λ xs. xs ++ c.args.change ∷ []) (ap (λ v. v.items) w.few-is ∙ (sym (append-nil c.pop.new.self.items) ∙ sym w.in_default.ensures.items))) (λ r u. all-none (λ d. d.node < c.args.change.node) c.args.few.now.items (omega (arith, w.in_default.ensures.cases)))
    ]
