use Rattle.std.proofs.Common.{◌≡◌, ◌≢◌, ◌+◌, ◌++◌, ◌⊎◌, ℕ, zero, suc, [], true, false, ◌&&◌, inl, inr, length, ap, sym, subst, ◌∙◌, arith}
use Rattle.std.specs.Prelude.{◌==◌}
use Rattle.std.proofs.Math.Dec.{eqb, eqb-suc-zero}
use Rattle.std.proofs.lemmas.Bool.{eq-eqb}
use Rattle.std.proofs.lemmas.Bool.Decides.{eqb_tells}
use Rattle.sml_units.specs.Checked.{AreRepliesTo, AreNumbered, with_last}
use Rattle.sml_lex.specs.Faults.{fault_of}
use Rattle.sml_units.proofs.Replying.{as_many}
use Rattle.std.specs.Option.{option_map}
use Rattle.std.proofs.lemmas.List.{length-append}
use Rattle.sml_units.proofs.project.end.Goals as goal

pub returns-clause-replies : goal.returns-clause-replies
returns-clause-replies c =
    let rest = c.in_ok-replies.ensures in
    let all = c.in_ok-replies-2.ensures.more in
    record {
      tail = rest.0;
      ends = all.0;
      replies = all.1 ∙ ap (λ l. l ++ all.0) rest.1;
      number = (let a = c.len.ensures in let b = c.after-rest.ensures in let n = rest.2 in omega (arith, a, b, n));
      one = all.2 ∙ as_many fault_of c.args.fault;
      last_is = λ os h. c.in_ok-replies-2.ensures.last os (subst (AreRepliesTo 1 os) (sym rest.1) h);
      numbered = subst (λ k. AreNumbered k rest.0) (omega arith) rest.3;
      to_last = subst (λ k. AreRepliesTo k (with_last [] (option_map fault_of c.args.fault)) all.0)
          (let a = c.len.ensures in let b = c.after-rest.ensures in let n = rest.2 in let l = ap length rest.1 ∙ length-append c.args.begun.replies.items rest.0 in omega (arith, a, b, n, l)) all.3;
    }

-- nothing is left after the first k of n where k is n
rest_none : (k r n : ℕ) → k + r ≡ n → (r == 0) ≡ (k == n)
rest_none k zero n h = sym (eq-eqb k n (omega (arith, h)))
rest_none k (suc r) n h = eqb-suc-zero r ∙ sym (others (eqb_tells k n))
  where
    others : ((eqb k n ≡ true) × (k ≡ n)) ⊎ ((eqb k n ≡ false) × (k ≢ n)) → (k == n) ≡ false
    others (inl x) = let e = x.1 in absurd (omega (arith, h, e))
    others (inr x) = x.0

pub returns-clause-kept : goal.returns-clause-kept
returns-clause-kept c =
    let k = length c.args.begun.replies.items in
    let n = length c.args.declarations.now in
    let left = length c.after-rest.result.now in (
      c.in_ok-own.ensures.there ∙ c.is_all.ensures ∙ ap (λ b. c.args.begun.is_whole && b) (rest_none k left n (let a = c.len.ensures in let b = c.after-rest.ensures in omega (arith, a, b))),
      c.in_ok-own.ensures.env,
    )
