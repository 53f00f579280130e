-- The rows of the rules that were picked.
use Rattle.std.proofs.Common.{◌≡◌, ℕ, ◌+◌, ◌<◌, length, get_or, drop, List, [], ◌∷◌, ◌++◌, append_assoc, Bool, true, false, Option, Some, None, cond, slice_get, refl, ap, sym, subst, ◌∙◌}
use Rattle.std.specs.List.{cons_option}
use Rattle.std.specs.Option.{option_map}
use Rattle.std.specs.Prelude.{IfOk, IfSome, Result, Ok, Err, Vec}
use Rattle.std.specs.Global.{Global}
use Rattle.std.proofs.lemmas.List.{drop_more}
use Rattle.std.proofs.lemmas.Option.{slice_get-map}
use Rattle.sml_lex.specs.declared.fault.Memory.{Memory}
use Rattle.sml_patterns.specs.declared.judge.Judged.{Judged}
use Rattle.sml_narrowing.specs.Plain.{Plain}
use Rattle.sml_patterns.specs.Warnings.{Rule}
use Rattle.sml_patterns.specs.CodeMatrix.{is_useful, singles}
use Rattle.sml_narrowing.specs.Views.{plain_of}
use Rattle.sml_patterns.specs.CodeTasks.{is_apart, near, is_free, plains, rule_of, rules_of}
use Rattle.sml_patterns.specs.CodeColumns.{picked}

plain_at_index : (rules : List Judged) (i : ℕ) → slice_get (plains (rules_of rules)) i ≡ option_map (λ r. plain_of r.pattern) (slice_get rules i)
plain_at_index rules i =
    slice_get-map (λ (r : Rule). r.plain) (rules_of rules) i ∙ ap (option_map (λ (r : Rule). r.plain)) (slice_get-map rule_of rules i) ∙ twice (slice_get rules i)
  where
    twice : (o : Option Judged) → option_map (λ (r : Rule). r.plain) (option_map rule_of o) ≡ option_map (λ r. plain_of r.pattern) o
    twice None = refl
    twice (Some r) = refl

one_more : (p q : Plain) (qs : List Plain) → singles (near p (q ∷ qs)) ≡ singles (near p (q ∷ [])) ++ singles (near p qs)
one_more p q qs = by_test (is_apart p q)
  where
    by_test : (b : Bool) → singles (cond b (near p qs) (q ∷ near p qs)) ≡ singles (cond b [] (q ∷ [])) ++ singles (near p qs)
    by_test true = refl
    by_test false = refl

module _ (p : Plain) (rules : List Judged) (is : List ℕ) (n : ℕ) (within : n < length is) where
  abbrev i : ℕ
  i = get_or is n 0

  abbrev left : List Plain
  left = picked (plains (rules_of rules)) (drop (n + 1) is)

  next_picked : (o : Option Judged) → slice_get rules i ≡ o → picked (plains (rules_of rules)) (drop n is) ≡ cons_option (option_map (λ r. plain_of r.pattern) o) left
  next_picked o e =
      ap (picked (plains (rules_of rules))) (drop_more is n 0 within)
      ∙ ap (λ x. cons_option x left) (plain_at_index rules i ∙ ap (option_map (λ r. plain_of r.pattern)) e)

  -- the next index has this rule
  pub picked_one : (r : Judged) (all old new : List (List Plain)) → slice_get rules i ≡ Some r → all ≡ old ++ singles (near p (picked (plains (rules_of rules)) (drop n is)))
      → new ≡ old ++ singles (near p (plain_of r.pattern ∷ [])) → all ≡ new ++ singles (near p left)
  picked_one r all old new e a h =
      a ∙ ap (λ ps. old ++ singles (near p ps)) (next_picked (Some r) e) ∙ ap (λ rows. old ++ rows) (one_more p (plain_of r.pattern) left)
      ∙ sym (append_assoc old (singles (near p (plain_of r.pattern ∷ []))) (singles (near p left))) ∙ ap (λ rows. rows ++ singles (near p left)) (sym h)

  -- or there is none with it
  pub picked_none : (all old : List (List Plain)) → slice_get rules i ≡ None → all ≡ old ++ singles (near p (picked (plains (rules_of rules)) (drop n is))) → all ≡ old ++ singles (near p left)
  picked_none all old e a = a ∙ ap (λ ps. old ++ singles (near p ps)) (next_picked None e)

-- what escapes those that were picked escapes all above
pub escapes_picked : (p : Plain) (above : List Plain) (is : List ℕ) (rows : List (List Plain)) (r : Result Bool Memory) → near p (picked above is) ≡ near p above → rows ≡ singles (near p (picked above is))
    → IfOk r (λ y. y ≡ is_useful rows (p ∷ [])) → IfOk r (λ y. y ≡ is_free above p)
escapes_picked p above is rows (Err e) same made h = tt
escapes_picked p above is rows (Ok y) same made h = h ∙ ap (λ rows. is_useful rows (p ∷ [])) (made ∙ ap singles same)

pub near_found : (p : Plain) (above : List Plain) (found : Option (Vec ℕ Global)) (is : Vec ℕ Global) → found ≡ Some is → IfSome found (λ is. near p (picked above is.items) ≡ near p above) → near p (picked above is.items) ≡ near p above
near_found p above found is e h = subst (λ o. IfSome o (λ is. near p (picked above is.items) ≡ near p above)) e h
