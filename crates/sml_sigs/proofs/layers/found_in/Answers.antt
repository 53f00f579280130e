use Rattle.std.proofs.Common.{length, reverse, drop, Some, None, ap, sym, ◌∙◌, arith}
use Rattle.std.proofs.lemmas.Iterator.Adapters.{YieldsList-from_rev_slice}
use Rattle.std.proofs.lemmas.Iterator.Consumers.{YieldsList-turn, YieldsList-end}
use Rattle.std.proofs.lemmas.List.{at_drop_all, length_push}
use Rattle.sml_tree.specs.Views.{ident_of}
use Rattle.sml_bases.specs.CodeStored.{stored_in}
use Rattle.sml_bases.specs.Layers.{first_found}
use Rattle.sml_sigs.specs.Layers.{drafted_at}
use Rattle.sml_sigs.proofs.Drafts.{found-next}
use Rattle.sml_sigs.proofs.layers.found_in.Goals as goal

pub loop-draft-preserved : goal.loop-draft-preserved
loop-draft-preserved g c =
    let x = ident_of c.args.name.now in
    let all = reverse c.args.drafts.now in
    let n = length c.loop-draft.yielded in
    let t = YieldsList-turn (YieldsList-from_rev_slice c.args.drafts.now (cc)) c.loop-draft.yielded _ c.loop-draft.yielded_by _ _ c.in-Some.draft c.in-Some.is c.next.ensures.steps in
    c.loop-draft.invariant
    ∙ found-next (drafted_at g.T.Entry.held x) all n c.in-Some.draft.now None t (c.in_default.ensures.value ∙ ap (stored_in x) c.entries.ensures)
    ∙ ap (λ k. first_found (drafted_at g.T.Entry.held x) (drop k all)) (sym (length_push c.loop-draft.yielded c.in-Some.draft))

pub returns-in-Some-get : goal.returns-in-Some-get
returns-in-Some-get g c =
    let x = ident_of c.args.name.now in
    let all = reverse c.args.drafts.now in
    let t = YieldsList-turn (YieldsList-from_rev_slice c.args.drafts.now (cc)) c.loop-draft.yielded _ c.loop-draft.yielded_by _ _ c.in-Some.draft c.in-Some.is c.next.ensures.steps in
    sym (c.loop-draft.invariant
    ∙ found-next (drafted_at g.T.Entry.held x) all (length c.loop-draft.yielded) c.in-Some.draft.now (Some c.in-Some-get.found.now) t (c.in-Some-get.ensures.value ∙ ap (stored_in x) c.entries.ensures))

pub returns : goal.returns
returns g c =
    let x = ident_of c.args.name.now in
    let all = reverse c.args.drafts.now in
    let t = YieldsList-end (YieldsList-from_rev_slice c.args.drafts.now (cc)) c.loop-draft.yielded _ c.loop-draft.yielded_by _ _ c.in-None.is c.next.ensures.steps in
    sym (c.loop-draft.invariant ∙ at_drop_all (first_found (drafted_at g.T.Entry.held x)) all (length c.loop-draft.yielded) (omega (arith, t.1)))
