-- Which warnings a match or a binding has.
use Rattle.std.specs.Prelude.{◌≡◌, ℕ, List, [], ◌∷◌, ◌++◌, ◌⊎◌}
use Rattle.std.specs.Borrow.{Bor}
use Rattle.std.specs.Ordering.{nat_cmp, ordering_then}
use Rattle.std.specs.declared.cmp.Ordering.{Ordering}
use Rattle.sml_lex.specs.declared.fault.Place.{Place}
use Rattle.sml_lex.specs.declared.fault.Code.{Code}
use Rattle.sml_lex.specs.declared.fault.Code.TheVariants.{P1, P2, P3}
use Rattle.sml_lex.specs.declared.fault.Warning.{Warning}
use Rattle.sml_tree.specs.Trees.{LongId}
use Rattle.sml_tree.specs.Patterns as T
use Rattle.sml_tree.specs.PatternViews.{pat_of}
use Rattle.sml_tree.specs.declared.patterns.Pat.{Pat}
use Rattle.sml_patterns.specs.declared.names.Meaning.{Meaning}
use Rattle.sml_patterns.specs.declared.judge.Holder.{Holder}
use Rattle.sml_patterns.specs.declared.judge.Holder.TheVariants.{Fn, Handle, Val}
use Rattle.sml_narrowing.specs.Plain.{Plain}
use Rattle.sml_patterns.specs.Stands.{StandsFor}
use Rattle.sml_patterns.specs.Shape.{Shape, Matches, World, Column, part, IsShape, Fits}

-- a rule: its place, and what its pattern stands for
pub record Rule : Type 0 where
  pub place : Place
  pub plain : Plain

-- the rules that patterns with their places stand for
abbrev pub MakeRules : (LongId → Meaning) → List (Place × T.Pat Place) → List Rule → Type 0
MakeRules N [] [] = Unit {0}
MakeRules N [] (r ∷ rs) = ⊥
MakeRules N (p ∷ ps) [] = ⊥
MakeRules N (p ∷ ps) (r ∷ rs) = (r.place ≡ p.0) × StandsFor N p.1 r.plain × MakeRules N ps rs

-- the program's patterns as trees
abbrev pub written : List (Place × Bor Pat) → List (Place × T.Pat Place)
written [] = []
written (p ∷ ps) = (p.0, pat_of p.1.now) ∷ written ps

abbrev pub AreRules : (LongId → Meaning) → List (Place × Bor Pat) → List Rule → Type 0
AreRules N ps rs = MakeRules N (written ps) rs

-- each rule's pattern has the type
abbrev pub AllFit : World → Column → List Rule → Type 0
AllFit w c [] = Unit {0}
AllFit w c (r ∷ rs) = Fits w c.depth c.type r.plain × AllFit w c rs

-- the shape escapes the rules: none of them matches it
abbrev pub Escapes : List Rule → Shape → Type 0
Escapes [] s = Unit {0}
Escapes (r ∷ rs) s = (Matches r.plain s → ⊥) × Escapes rs s

abbrev pub warning : Place → Code → Warning
warning p c = record { place = p; code = c }

-- no shape that the rule matches escapes the rules above it
abbrev pub IsRedundant : World → Column → List Rule → Rule → Type 0
IsRedundant w c above r =
    (s : Shape) → IsShape w (part w c) s → Matches r.plain s → Escapes above s → ⊥

-- some shape escapes every rule
abbrev pub IsOpen : World → Column → List Rule → Type 0
IsOpen w c rules = (s : Shape) × IsShape w (part w c) s × Escapes rules s

abbrev pub IsOpenAt : World → Column → List Rule → Holder → Warning → Type 0
IsOpenAt w c rules (Fn p) x = (x ≡ warning p P2) × IsOpen w c rules
IsOpenAt w c rules (Handle p) x = ⊥
IsOpenAt w c rules (Val p) x = (x ≡ warning p P3) × IsOpen w c rules

-- the match or binding has this warning
abbrev pub IsWarning : World → Column → Holder → List Rule → Warning → Type 0
IsWarning w c h rules x =
    (((above : List Rule) × (r : Rule) × (below : List Rule) × (rules ≡ above ++ r ∷ below) × (x ≡ warning r.place P1) × IsRedundant w c above r)) ⊎ IsOpenAt w c rules h x

abbrev pub code_rank : Code → ℕ
code_rank P1 = 1
code_rank P2 = 2
code_rank P3 = 3
code_rank _ = 0

-- by line, then column, then code
abbrev pub warning_cmp : Warning → Warning → Ordering
warning_cmp x y =
    ordering_then (nat_cmp x.place.line y.place.line) (ordering_then (nat_cmp x.place.column y.place.column) (nat_cmp (code_rank x.code) (code_rank y.code)))
