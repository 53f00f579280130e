use Rattle.std.proofs.Common.{ap, sym, ◌∙◌, arith, refl, subst, ◌+◌, is_some}
use Rattle.sml_lex.specs.Words.{word_kind}
use Rattle.sml_lex.specs.CodeMachine.{IsLongestWithin}
use Rattle.sml_lex.proofs.Beginnings.{state_on, part_on, start_on, kind_on, longest_none, longest_yes, longest_no, longest_dead}
use Rattle.sml_lex.proofs.longest.longest.Goals as goal
use Rattle.sml_lex.proofs.longest.longest.Goals.{in-Some, in_default-kind_of}

pub loop-i-init : goal.loop-i-init
unfolding word_kind
loop-i-init c = record {
  state = refl;
  part = refl;
  reserved = refl;
  before = omega arith;
  longest = longest_none c.args.bytes.now;
}

pub returns-in-Dead : goal.returns-in-Dead
returns-in-Dead c =
    let inv = c.loop-i.invariant in
    longest_dead _ _ _ c.loop-i-test.true (sym (state_on c.args.bytes.now c.loop-i.i 0 _ _ _ _ c.loop-i-test.true refl inv.state inv.reserved c.after-state.ensures) ∙ c.in-Dead.is) inv.longest

pub loop-i-preserved : goal.loop-i-preserved
loop-i-preserved c =
    let inv = c.loop-i.invariant in
    let s = state_on c.args.bytes.now c.loop-i.i 0 _ _ _ _ c.loop-i-test.true refl inv.state inv.reserved c.after-state.ensures in
    let p = part_on c.args.bytes.now c.loop-i.start c.loop-i.i 0 _ _ inv.before c.loop-i-test.true refl inv.part c.part_start-start.ensures in
    let k = kind_on c.args.bytes.now c.loop-i.i _ _ _ _ _ s p c.word_kind_of-word.ensures c.is_star.ensures c.kind_of.ensures in record {
      state = s;
      part = p;
      reserved = c.is_some-reserved.ensures ∙ ap is_some (c.word_kind_of-word.ensures ∙ ap word_kind p);
      before = start_on _ _ _ _ inv.before c.part_start-start.ensures;
      longest = elim c.match-kind_of.branch [ in-Some w ↦ subst (IsLongestWithin c.args.bytes.now (c.loop-i.i + 1)) (sym w.best-is) (longest_yes _ _ _ (k ∙ w.in-Some.is)) | in_default-kind_of w ↦ subst (IsLongestWithin c.args.bytes.now (c.loop-i.i + 1)) (sym w.best-is) (longest_no _ _ _ (k ∙ w.in_default-kind_of.is) inv.longest) ];
    }
