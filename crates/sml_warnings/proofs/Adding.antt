-- Which warnings are added where nothing is judged, and where the names that were noted tell.
use Rattle.std.proofs.Common.{◌≡◌, ℕ, true, List, [], ◌∷◌, ◌++◌, refl, ap, arith}
use Rattle.std.specs.List.{Contains}
use Rattle.std.specs.List.Sorted.{IsStrictlySortedBy}
use Rattle.sml_lex.specs.declared.fault.Place.{Place}
use Rattle.sml_lex.specs.declared.fault.Warning.{Warning}
use Rattle.sml_tree.specs.Trees.{LongId}
use Rattle.sml_tree.specs.Patterns.{Pat}
use Rattle.sml_patterns.specs.declared.judge.Holder.{Holder}
use Rattle.sml_patterns.specs.declared.judge.Holder.TheVariants as J
use Rattle.sml_patterns.specs.declared.names.Meaning.{Meaning}
use Rattle.sml_patterns.specs.declared.names.Meaning.TheVariants as M
use Rattle.sml_patterns.specs.Shape.{World, column}
use Rattle.sml_patterns.specs.Warnings.{Rule, MakeRules, AllFit, IsWarning, warning_cmp}
use Rattle.sml_warnings.specs.Added.{Adds, holder_of, is_clear}
use Rattle.sml_warnings.specs.declared.matches.Kind.{Kind}
use Rattle.sml_warnings.specs.declared.matches.Kind.TheVariants.{Fn, Handle}
use Rattle.sml_warnings.specs.Named.{is_everything, after_patterns, names_in_patterns, TextsTell}
use Rattle.sml_warnings.proofs.Everything.{all_matched, no_warning, one_handles, none_handles}
use Rattle.sml_warnings.proofs.Noted.{all_noted, same_rules}

append_none : {X : Type 0} (xs : List X) → xs ≡ xs ++ []
append_none [] = refl
append_none (x ∷ xs) = ap (λ l. x ∷ l) (append_none xs)

holds_none : {X : Type 0} (x : X) → Contains [] x → ⊥
holds_none x h = omega (arith, h.1)

none_rise : IsStrictlySortedBy warning_cmp []
unfolding IsStrictlySortedBy
none_rise = tt

-- nothing is added where nothing is a warning
none_added : (N : LongId → Meaning) (h : Holder) (ps : List (Place × Pat Place)) (old : List Warning) → ((rules : List Rule) → MakeRules N ps rules → (w : World) (d t : ℕ) → AllFit w (column d t) rules → (x : Warning) → IsWarning w (column d t) h rules x → ⊥) → Adds N h ps old old
none_added N h ps old n =
    ([], append_none old, record { sorted = none_rise; all = λ rules m w d t f x. (λ y. absurd (holds_none x y), λ y. absurd (n rules m w d t f x y)) })

everything-none : (N : LongId → Meaning) (h : Holder) (p : Place × Pat Place) → is_everything N p.1 ≡ true → (rules : List Rule) → MakeRules N (p ∷ []) rules → (w : World) (d t : ℕ) → AllFit w (column d t) rules → (x : Warning) → IsWarning w (column d t) h rules x → ⊥
everything-none N h p e [] m w d t f x y = absurd m
everything-none N h p e (r ∷ []) m w d t f x y = no_warning w d t h r x (all_matched N p.1 r.plain m.1 e) f.0 y
everything-none N h p e (r ∷ (s ∷ rs)) m w d t f x y = absurd m.2

-- a pattern that everything matches has no warning
pub adds_none : (N : LongId → Meaning) (h : Holder) (p : Place × Pat Place) (old : List Warning) → is_everything N p.1 ≡ true → Adds N h (p ∷ []) old old
adds_none N h p old e = none_added N h (p ∷ []) old (everything-none N h p e)

none-handled : (N : LongId → Meaning) (h : Place) (rules : List Rule) → MakeRules N [] rules → (w : World) (d t : ℕ) → AllFit w (column d t) rules → (x : Warning) → IsWarning w (column d t) (J.Handle h) rules x → ⊥
none-handled N h [] m w d t f x y = none_handles w d t h x y
none-handled N h (r ∷ rs) m w d t f x y = absurd m

one-handled : (N : LongId → Meaning) (h : Place) (p : Place × Pat Place) (rules : List Rule) → MakeRules N (p ∷ []) rules → (w : World) (d t : ℕ) → AllFit w (column d t) rules → (x : Warning) → IsWarning w (column d t) (J.Handle h) rules x → ⊥
one-handled N h p [] m w d t f x y = absurd m
one-handled N h p (r ∷ []) m w d t f x y = one_handles w d t h r x f.0 y
one-handled N h p (r ∷ (s ∷ rs)) m w d t f x y = absurd m.2

-- nor has a match that is clear
pub adds_clear : (N : LongId → Meaning) (k : Kind) (h : Place) (ps : List (Place × Pat Place)) (old : List Warning) → is_clear N k ps ≡ true → Adds N (holder_of k h) ps old old
adds_clear N Fn h [] old e = cc
adds_clear N Fn h (p ∷ []) old e = adds_none N (J.Fn h) p old e
adds_clear N Fn h (p ∷ (q ∷ ps)) old e = cc
adds_clear N Handle h [] old e = none_added N (J.Handle h) [] old (none-handled N h)
adds_clear N Handle h (p ∷ []) old e = none_added N (J.Handle h) (p ∷ []) old (one-handled N h p)
adds_clear N Handle h (p ∷ (q ∷ ps)) old e = cc

-- the names that were noted tell the warnings
pub adds_noted : (N K : LongId → Meaning) (h : Holder) (ps : List (Place × Pat Place)) (old new : List Warning) → ((x : LongId) → K x ≡ after_patterns N ps x M.Variable) → TextsTell N (names_in_patterns ps) → Adds K h ps old new → Adds N h ps old new
adds_noted N K h ps old new e t a =
    (a.0, a.1, record { sorted = a.2.sorted; all = λ rules m. a.2.all rules (same_rules N K ps rules (all_noted N ps K e t) m) })
