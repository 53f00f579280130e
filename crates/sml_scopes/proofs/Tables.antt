-- Bindings of a table, and what it has when they are undone.
use Rattle.std.proofs.Common.{◌≡◌, ◌≤◌, ℕ, zero, suc, List, [], ◌∷◌, ◌++◌, drop, length, Option, refl, ap, sym, ◌∙◌, arith}
use Rattle.std.specs.declared.cmp.Ordering.{Ordering}
use Rattle.std.specs.declared.cmp.Ordering.TheVariants.{Less, Equal, Greater}
use Rattle.sml_tree.specs.Trees.{Id}
use Rattle.sml_tree.specs.Views.{ident_of}
use Rattle.sml_objects.specs.Maps.{order_of}
use Rattle.sml_scopes.specs.CodeTables.{hidden_first}
use Rattle.sml_objects.proofs.Puts.{at}
use Rattle.sml_scopes.proofs.Stored.{Ident}

abbrev pub Log : Type 0 → Type 0
Log E = List (Ident × Option E)

pub drop-more : {A : Type 0} (n : ℕ) (xs : List A) (y : A) → n ≤ length xs → drop n (xs ++ y ∷ []) ≡ drop n xs ++ y ∷ []
drop-more zero xs y h = refl
drop-more (suc n) [] y h = absurd (omega (arith, h))
drop-more (suc n) (x ∷ xs) y h = drop-more n xs y (omega (arith, h))

hidden-more : {E : Type 0} (x : Id) (bs : Log E) (b : Ident × Option E) (now : Option E)
    → hidden_first x (bs ++ b ∷ []) now ≡ hidden_first x bs (at (order_of x (ident_of b.0)) b.1 now)
hidden-more x [] b now = refl
hidden-more x (c ∷ bs) b now = ap (λ h. at (order_of x (ident_of c.0)) c.1 h) (hidden-more x bs b now)

-- after one binding more of the log
pub log-more : {E : Type 0} (x : Id) (first : ℕ) (log longer : Log E) (b : Ident × Option E) (now : Option E) → longer ≡ log ++ b ∷ [] → first ≤ length log
    → hidden_first x (drop first longer) now ≡ hidden_first x (drop first log) (at (order_of x (ident_of b.0)) b.1 now)
log-more x first log longer b now e h =
    ap (λ l. hidden_first x (drop first l) now) e
    ∙ ap (λ l. hidden_first x l now) (drop-more first log b h)
    ∙ hidden-more x (drop first log) b now

-- what was bound where the log ends
pub log-ends : {E : Type 0} (x : Id) (first : ℕ) (log : Log E) (now : Option E) → length log ≤ first → hidden_first x (drop first log) now ≡ now
log-ends x zero [] now h = refl
log-ends x zero (b ∷ log) now h = absurd (omega (arith, h))
log-ends x (suc first) [] now h = refl
log-ends x (suc first) (b ∷ log) now h = log-ends x first log now (omega (arith, h))

-- what a binding hid is put back
put-back : {X : Type 0} (o : Ordering) (v hidden now : X) → (o ≡ Equal → hidden ≡ now) → at o hidden (at o v now) ≡ now
put-back Less v hidden now h = refl
put-back Equal v hidden now h = h refl
put-back Greater v hidden now h = refl

pub bound-before : {E : Type 0} (x : Id) (first : ℕ) (log longer : Log E) (b : Ident × Option E) (v now new : Option E) → longer ≡ log ++ b ∷ [] → first ≤ length log
    → new ≡ at (order_of x (ident_of b.0)) v now → (order_of x (ident_of b.0) ≡ Equal → b.1 ≡ now) → hidden_first x (drop first longer) new ≡ hidden_first x (drop first log) now
bound-before x first log longer b v now new e h put hid =
    log-more x first log longer b new e h
    ∙ ap (λ n. hidden_first x (drop first log) (at (order_of x (ident_of b.0)) b.1 n)) put
    ∙ ap (hidden_first x (drop first log)) (put-back (order_of x (ident_of b.0)) v b.1 now hid)

-- the last binding is undone
pub undone : {E : Type 0} (x : Id) (first : ℕ) (log longer : Log E) (b : Ident × Option E) (now new : Option E) → longer ≡ log ++ b ∷ [] → first ≤ length log
    → new ≡ at (order_of x (ident_of b.0)) b.1 now → hidden_first x (drop first log) new ≡ hidden_first x (drop first longer) now
undone x first log longer b now new e h put = ap (hidden_first x (drop first log)) put ∙ sym (log-more x first log longer b now e h)
