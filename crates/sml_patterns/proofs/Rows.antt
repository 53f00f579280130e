-- Rows that are apart, as the code goes over them.
use Rattle.std.proofs.Common.{◌≡◌, ℕ, suc, ◌+◌, ◌<◌, ◌≤◌, Bool, false, List, ◌∷◌, length, drop, get_or, ◌||◌, ap, sym, subst, ◌∙◌, arith}
use Rattle.sml_tree.specs.Views.{ident_of}
use Rattle.sml_narrowing.specs.declared.pattern.Pattern.{Pattern}
use Rattle.sml_narrowing.specs.Plain.{Plain, Row, field}
use Rattle.sml_patterns.specs.CodeTasks.{outer_apart, rows_apart}
use Rattle.sml_narrowing.proofs.Rows.{Key, row_from, row_ends, some_at, row_goes}

-- whether two rows are apart at a label, from this index on
pub apart_ends : (ls : List Key) (fs : List Pattern) (k : ℕ) (row other : Row) → length fs ≤ k → rows_apart (row_from ls fs k) row other ≡ false
apart_ends ls fs k row other h = ap (λ r. rows_apart r row other) (row_ends ls fs k h)

pub apart_here : (ls : List Key) (fs : List Pattern) (k : ℕ) (l : Key) (row other : Row) (p q : Plain) (b : Bool) → k < length ls → l ≡ get_or ls k l → k < length fs → p ≡ field (ident_of l) row → q ≡ field (ident_of l) other → b ≡ outer_apart p q
    → rows_apart (row_from ls fs k) row other ≡ (b || rows_apart (row_from ls fs (k + 1)) row other)
apart_here ls fs k l row other p q b h e i f g a =
    let s : suc k ≡ k + 1 = omega arith in
    let x = some_at fs k i in
    ap (λ r. rows_apart r row other) (row_goes ls fs k l x.0 h e (subst (λ m. drop k fs ≡ x.0 ∷ drop m fs) s x.1))
    ∙ ap (λ c. c || rows_apart (row_from ls fs (k + 1)) row other) (sym (a ∙ ap (λ r. outer_apart r q) f ∙ ap (outer_apart (field (ident_of l) row)) g))
