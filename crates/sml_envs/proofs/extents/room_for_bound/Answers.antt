use Rattle.std.proofs.Common.{◌≡◌, ℕ, ◌+◌, ◌-◌, ◌*◌, ◌^◌, ◌≤◌, IfOk, ap, sym, subst, ◌∙◌, map, rules}
use Rattle.std.proofs.lemmas.Map.Iter.{iter_end}
use Rattle.std.specs.Map.Iter.{deref_pair}
use Rattle.std.specs.Vec.{vec_capacity}
use Rattle.std.specs.Global.{Global}
use Rattle.std.specs.declared.rc.Rc.{Rc}
use Rattle.sml_objects.specs.Views.{entries_of}
use Rattle.sml_bases.specs.Entries.{capped_32, total}
use Rattle.sml_bases.specs.Summaries.{lines_of}
use Rattle.sml_bases.specs.declared.objects.Basis.TheViews.{out-Basis}
use Rattle.sml_bases.specs.declared.objects.FunSig.{FunSig}
use Rattle.sml_bases.specs.declared.objects.Sig.{Sig}
use Rattle.sml_bases.proofs.Totals.{total-more}
use Rattle.sml_envs.specs.Extents.{bound_lines}
use Rattle.sml_envs.proofs.Caps.{added-to, regrouped}
use Rattle.sml_envs.proofs.extents.room_for_bound.Goals as goal

abbrev sig_lines : Rc Sig Global → ℕ
sig_lines s = lines_of s.value.env.value

abbrev fun_sig_lines : Rc FunSig Global → ℕ
fun_sig_lines f = lines_of f.value.argument.env.value + lines_of f.value.result.env.value

pub loop-signature-preserved : goal.loop-signature-preserved
loop-signature-preserved c =
    let own = lines_of (out-Basis c.args.basis.now).env in
    let before = total sig_lines (entries_of (λ s. s) (map deref_pair c.loop-signature.yielded)) in
    let this = sig_lines c.in-Some.signature.now in
    let lines : c.lines.result ≡ this =
    c.lines.ensures ∙ ap lines_of c.deref-in-loop-signature.ensures ∙ ap (λ (s : Sig). lines_of s.env.value) c.deref.ensures in
    added-to (2 ^ 32 - 1) (own + before) this _ _ c.loop-signature.invariant (c.saturating_add-lines.ensures ∙ ap (λ n. capped_32 (c.loop-signature.lines + n)) lines)
    ∙ ap capped_32 (regrouped own before this)
    ∙ ap (λ n. capped_32 (own + n)) (sym (total-more (λ s. s) sig_lines c.loop-signature.yielded c.in-Some.field-0-0 c.in-Some.signature))

pub loop-functor-preserved : goal.loop-functor-preserved
loop-functor-preserved c =
    let most = 2 ^ 32 - 1 in
    let own = c.loop-signature.lines in
    let before = total fun_sig_lines (entries_of (λ f. f) (map deref_pair c.loop-functor.yielded)) in
    let f = c.in-Some-2.functor.now.value in
    let argument : c.lines-in-loop-functor.result ≡ lines_of f.argument.env.value =
    c.lines-in-loop-functor.ensures ∙ ap lines_of c.deref-in-loop-functor-2.ensures ∙ ap (λ (g : FunSig). lines_of g.argument.env.value) c.deref-in-loop-functor.ensures in
    let result : c.lines-in-loop-functor-2.result ≡ lines_of f.result.env.value =
    c.lines-in-loop-functor-2.ensures ∙ ap lines_of c.deref-in-loop-functor-4.ensures ∙ ap (λ (g : FunSig). lines_of g.result.env.value) c.deref-in-loop-functor-3.ensures in
    let first = added-to most (own + before) (lines_of f.argument.env.value) _ _ c.loop-functor.invariant (c.saturating_add-lines-in-loop-functor.ensures ∙ ap (λ n. capped_32 (c.loop-functor.lines + n)) argument) in
    added-to most (own + before + lines_of f.argument.env.value) (lines_of f.result.env.value) _ _ first
    (c.saturating_add-lines-in-loop-functor-2.ensures ∙ ap (λ n. capped_32 (c.saturating_add-lines-in-loop-functor.result + n)) result)
    ∙ ap capped_32 (regrouped (own + before) (lines_of f.argument.env.value) (lines_of f.result.env.value) ∙ regrouped own before (fun_sig_lines c.in-Some-2.functor.now))
    ∙ ap (λ n. capped_32 (own + n)) (sym (total-more (λ f. f) fun_sig_lines c.loop-functor.yielded c.in-Some-2.field-0-0 c.in-Some-2.functor))

pub returns : goal.returns
returns c =
    let b = out-Basis c.args.basis.now in
    let signatures : map deref_pair c.loop-signature.yielded ≡ b.signatures.entries = search (rules, iter_end) in
    let functors : map deref_pair c.loop-functor.yielded ≡ b.functors.entries = search (rules, iter_end) in
    let ss = total sig_lines (entries_of (λ s. s) b.signatures.entries) in
    let fs = total fun_sig_lines (entries_of (λ f. f) b.functors.entries) in
    let lines : c.loop-functor.lines ≡ bound_lines c.args.basis.now =
    added-to (2 ^ 32 - 1) (lines_of b.env + ss) fs _ _
    (c.loop-signature.invariant ∙ ap (λ l. capped_32 (lines_of b.env + total sig_lines (entries_of (λ s. s) l))) signatures)
    (c.loop-functor.invariant ∙ ap (λ l. capped_32 (c.loop-signature.lines + total fun_sig_lines (entries_of (λ f. f) l))) functors)
    ∙ ap capped_32 (regrouped (lines_of b.env) ss fs) in
    subst (λ n. IfOk c.room_for_lines.result (λ v. 2 ^ 20 ≤ n → n * 128 ≤ vec_capacity v)) lines c.room_for_lines.ensures
