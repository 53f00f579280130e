-- Whether two values, or two identifiers, are one is decided.
use Rattle.std.proofs.Common.{◌≡◌, ◌⊎◌, true, false, refl, ap, subst}
use Rattle.std.proofs.lemmas.Slice.Eq.{bytes_eq-Decides}
use Rattle.std.proofs.lemmas.Bool.Decides.{Decides-int_eq, Decides-eqb}
use Rattle.sml_tree.proofs.Idents.{tells}
use Rattle.sml_narrowing.specs.Plain.{Value, Integer, Word, Character, Text, Exception, value_eq}

value_same : (u v : Value) → value_eq u v ≡ true → u ≡ v
value_same (Integer m) (Integer n) h = ap Integer ((Decides-int_eq m n).0 h)
value_same (Word m) (Word n) h = ap Word ((Decides-eqb m n).0 h)
value_same (Character m) (Character n) h = ap Character ((Decides-eqb m n).0 h)
value_same (Text s) (Text t) h = ap Text ((bytes_eq-Decides s t).0 h)
value_same (Exception s) (Exception t) h = ap Exception ((bytes_eq-Decides s t).0 h)
value_same _ _ h = absurd (cc)

pub value_self : (v : Value) → value_eq v v ≡ true
value_self (Integer m) = (Decides-int_eq m m).1 refl
value_self (Word m) = (Decides-eqb m m).1 refl
value_self (Character m) = (Decides-eqb m m).1 refl
value_self (Text s) = (bytes_eq-Decides s s).1 refl
value_self (Exception s) = (bytes_eq-Decides s s).1 refl

pub value_tells : (u v : Value) → ((value_eq u v ≡ true) × (u ≡ v)) ⊎ ((value_eq u v ≡ false) × (u ≡ v → ⊥))
value_tells u v =
    tells (value_eq u v) (u ≡ v) (value_same u v, λ e. subst (λ x. value_eq u x ≡ true) e (value_self u))
