use Rattle.sml_tree.specs.Heights.{pat_height}
use Rattle.sml_derived.specs.Derived.{pat_cons}
use Rattle.sml_pat_sequences.specs.LowViews.{low_pat_of}
use Rattle.sml_phrases.proofs.Failures.{fails}
use Rattle.sml_bare_pats.proofs.PatternLists.{list-start, list-next, list-next-height}
use Rattle.sml_bare_pats.proofs.pattern_parts.list_pat.Goals as goal

pub returns-in_err-list-2 : goal.returns-in_err-list-2
returns-in_err-list-2 c =
    fails low_pat_of pat_height low_pat_of pat_height (pat_cons c.args.place (low_pat_of c.in-Some.pat) (low_pat_of c.loop-pat.list)) _ c.in_err-list-2.field-0.0 c.from_residual-in_err-list-2.result c.in_err-list-2.ensures c.from_residual-in_err-list-2.ensures.1
    (list-next-height c.args.place (low_pat_of c.loop-pat.list) _ c.loop-pat.pats.items c.pop.new.self.items c.in-Some.pat c.in-Some.ensures.items c.loop-pat.invariant)

pub loop-pat-init : goal.loop-pat-init
loop-pat-init c = list-start c.args.place (low_pat_of c.in_ok-list.list) c.args.pats.trees.items c.reverse.new.self.items c.reverse.ensures.items c.in_ok-list.ensures

pub loop-pat-preserved : goal.loop-pat-preserved
loop-pat-preserved c =
    list-next c.args.place (low_pat_of c.loop-pat.list) (low_pat_of c.in_ok-list-2.list) _ c.loop-pat.pats.items c.pop.new.self.items c.in-Some.pat c.in-Some.ensures.items c.in_ok-list-2.ensures c.loop-pat.invariant
