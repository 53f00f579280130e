-- The problems and rules that the code keeps, and the warnings that it finds.
use Rattle.std.specs.Prelude.{Bool, true, false, nat_eq, List, [], ◌∷◌, ◌++◌, ◌||◌, map, cond}
use Rattle.sml_lex.specs.declared.fault.Place.{Place}
use Rattle.sml_lex.specs.declared.fault.Code.TheVariants.{P1, P2, P3}
use Rattle.sml_lex.specs.declared.fault.Warning.{Warning}
use Rattle.sml_patterns.specs.declared.search.Task.{Task}
use Rattle.sml_patterns.specs.declared.judge.Holder.{Holder}
use Rattle.sml_patterns.specs.declared.judge.Holder.TheVariants.{Fn, Handle, Val}
use Rattle.sml_patterns.specs.declared.judge.Judged.{Judged}
use Rattle.sml_patterns.specs.declared.judge.Finding.{Finding}
use Rattle.sml_patterns.specs.declared.judge.Flaw.{Flaw}
use Rattle.sml_patterns.specs.declared.judge.Flaw.TheVariants.{Redundant, OpenMatch, OpenBinding}
use Rattle.sml_narrowing.specs.Plain.{Plain, Wild, Made, Fields, Valued, value_eq, Row, Empty, Labelled, field}
use Rattle.sml_patterns.specs.Warnings.{Rule, warning}
use Rattle.sml_patterns.specs.CodeMatrix.{Problem, problem, is_useful, singles}
use Rattle.sml_narrowing.specs.Views.{plain_of}
use Rattle.sml_narrowing.specs.CodeTasks.{line, lines}

abbrev pub problem_of : Task → Problem
problem_of t = problem (lines t.rows.items) (line t.question.items)

abbrev pub problems : List Task → List Problem
problems ts = map problem_of ts

-- the rules that the code keeps
abbrev pub rule_of : Judged → Rule
rule_of r = record { place = r.place; plain = plain_of r.pattern }

abbrev pub rules_of : List Judged → List Rule
rules_of rs = map rule_of rs

abbrev pub plains : List Rule → List Plain
plains rules = map (λ r. r.plain) rules

-- whether two patterns match no shape together, by their outermost constructors or values alone
abbrev pub outer_apart : Plain → Plain → Bool
outer_apart (Made k n p) (Made j m q) = cond (nat_eq j k) false true
outer_apart (Valued v p) (Valued u q) = cond (value_eq u v) false true
outer_apart (Made k n p) (Valued u q) = true
outer_apart (Valued v p) (Made j m q) = true
outer_apart p q = false

-- whether two rows have such patterns at one of these labels
abbrev pub rows_apart : Row → Row → Row → Bool
rows_apart Empty fs gs = false
rows_apart (Labelled l p more) fs gs = outer_apart (field l fs) (field l gs) || rows_apart more fs gs

-- whether two patterns match no shape together, by what stands outermost in them, or in two rows at one label
abbrev pub is_apart : Plain → Plain → Bool
is_apart (Fields fs) (Fields gs) = rows_apart fs fs gs
is_apart p q = outer_apart p q

-- the patterns that aren't apart from this one
abbrev pub near : Plain → List Plain → List Plain
near p [] = []
near p (q ∷ qs) = cond (is_apart p q) (near p qs) (q ∷ near p qs)

-- whether the search finds a shape that the pattern matches and these don't
abbrev pub is_free : List Plain → Plain → Bool
is_free above p = is_useful (singles (near p above)) (p ∷ [])

-- the warnings that the search gives: of the rules after the first ones, and of them all
abbrev pub redundant_from : List Rule → List Rule → List Warning
redundant_from above [] = []
redundant_from above (r ∷ rs) =
    cond (is_free (plains above) r.plain) [] (warning r.place P1 ∷ []) ++ redundant_from (above ++ r ∷ []) rs

abbrev pub open_at : List Rule → Holder → List Warning
open_at rules (Fn p) = cond (is_free (plains rules) Wild) (warning p P2 ∷ []) []
open_at rules (Handle p) = []
open_at rules (Val p) = cond (is_free (plains rules) Wild) (warning p P3 ∷ []) []

abbrev pub flaw_warning : Place → Flaw → Warning
flaw_warning p Redundant = warning p P1
flaw_warning p OpenMatch = warning p P2
flaw_warning p OpenBinding = warning p P3

abbrev pub warning_of : Finding → Warning
warning_of m = flaw_warning (record { line = m.line; column = m.column }) m.flaw

abbrev pub warnings_of : List Finding → List Warning
warnings_of ms = map warning_of ms
