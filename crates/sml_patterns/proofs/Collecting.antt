-- What is found at the next rule, and its key.
use Rattle.std.proofs.Common.{◌≡◌, ℕ, ◌+◌, ◌<◌, List, [], ◌∷◌, ◌++◌, append_assoc, length, take, drop, get_or, cond, Bool, false, ap, sym, ◌∙◌}
use Rattle.std.proofs.lemmas.List.{map-append, take_more, drop_more}
use Rattle.sml_lex.specs.declared.fault.Code.TheVariants.{P1}
use Rattle.sml_lex.specs.declared.fault.Place.{Place}
use Rattle.sml_lex.specs.declared.fault.Warning.{Warning}
use Rattle.sml_patterns.specs.declared.judge.Finding.{Finding}
use Rattle.sml_patterns.specs.declared.judge.Flaw.TheVariants.{Redundant}
use Rattle.sml_patterns.specs.declared.judge.Judged.{Judged}
use Rattle.sml_narrowing.specs.Views.{plain_of}
use Rattle.sml_patterns.specs.Warnings.{Rule, warning}
use Rattle.sml_patterns.specs.CodeTasks.{is_free, plains, rule_of, rules_of, redundant_from, warning_of, warnings_of}

warnings_last : (fs : List Finding) (f : Finding) → warnings_of (fs ++ f ∷ []) ≡ warnings_of fs ++ warning_of f ∷ []
warnings_last fs f = map-append warning_of fs (f ∷ [])

-- what is found where no shape escapes
pub pushed : (old new : List Finding) (f : Finding) (p : Place) (free : Bool) → new ≡ old ++ f ∷ [] → f ≡ record { line = p.line; column = p.column; flaw = Redundant } → free ≡ false
    → warnings_of new ≡ warnings_of old ++ cond free [] (warning p P1 ∷ [])
pushed old new f p free n e g =
    ap warnings_of n ∙ warnings_last old f ∙ ap (λ x. warnings_of old ++ warning_of x ∷ []) e ∙ ap (λ b. warnings_of old ++ cond b [] (warning p P1 ∷ [])) (sym g)

rules_last : (rs : List Judged) (r : Judged) → rules_of (rs ++ r ∷ []) ≡ rules_of rs ++ rule_of r ∷ []
rules_last rs r = map-append rule_of rs (r ∷ [])

plains_last : (rs : List Judged) (r : Judged) → plains (rules_of (rs ++ r ∷ [])) ≡ plains (rules_of rs) ++ plain_of r.pattern ∷ []
plains_last rs r = ap plains (rules_last rs r) ∙ map-append (λ (q : Rule). q.plain) (rules_of rs) (rule_of r ∷ [])

module _ (rules : List Judged) (i : ℕ) (r : Judged) (within : i < length rules) (here : get_or rules i r ≡ r) where
  taken : take (i + 1) rules ≡ take i rules ++ r ∷ []
  taken = take_more rules i r within ∙ ap (λ x. take i rules ++ x ∷ []) here

  pub next_plains : plains (rules_of (take (i + 1) rules)) ≡ plains (rules_of (take i rules)) ++ plain_of r.pattern ∷ []
  next_plains = ap (λ rs. plains (rules_of rs)) taken ∙ plains_last (take i rules) r

  next_redundant : (free : Bool) → free ≡ is_free (plains (rules_of (take i rules))) (plain_of r.pattern)
      → redundant_from (rules_of (take i rules)) (rules_of (drop i rules)) ≡ cond free [] (warning r.place P1 ∷ []) ++ redundant_from (rules_of (take (i + 1) rules)) (rules_of (drop (i + 1) rules))
  next_redundant free e =
      let above = rules_of (take i rules) in
      let below = rules_of (drop (i + 1) rules) in
      ap (λ rs. redundant_from above (rules_of rs)) (drop_more rules i r within ∙ ap (λ x. x ∷ drop (i + 1) rules) here)
      ∙ ap (λ b. cond b [] (warning r.place P1 ∷ []) ++ redundant_from (above ++ rule_of r ∷ []) below) (sym e)
      ∙ ap (λ rs. cond free [] (warning r.place P1 ∷ []) ++ redundant_from rs below) (sym (ap rules_of taken ∙ rules_last (take i rules) r))

  pub found_next : (all old new : List Warning) (free : Bool) → free ≡ is_free (plains (rules_of (take i rules))) (plain_of r.pattern)
      → all ≡ old ++ redundant_from (rules_of (take i rules)) (rules_of (drop i rules)) → new ≡ old ++ cond free [] (warning r.place P1 ∷ [])
      → all ≡ new ++ redundant_from (rules_of (take (i + 1) rules)) (rules_of (drop (i + 1) rules))
  found_next all old new free e a n =
      let rest = redundant_from (rules_of (take (i + 1) rules)) (rules_of (drop (i + 1) rules)) in
      a ∙ ap (λ ws. old ++ ws) (next_redundant free e) ∙ sym (append_assoc old (cond free [] (warning r.place P1 ∷ [])) rest) ∙ ap (λ ws. ws ++ rest) (sym n)
