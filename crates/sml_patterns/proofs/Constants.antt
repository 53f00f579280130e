-- A constant stands for one value.
use Rattle.std.proofs.Common.{◌≡◌, ℕ, List, [], ◌++◌, drop, get_or, Option, Some, ap, sym, subst, ◌∙◌}
use Rattle.std.specs.Prelude.{MatchOption, Vec}
use Rattle.std.specs.Global.{Global}
use Rattle.sml_lex.specs.Strings.{IsString, IsStringValue, IsCharacterValue, string_value}
use Rattle.sml_lex.proofs.FirstTokens.{quoted_unique}
use Rattle.sml_tree.specs.declared.patterns.ConstantKind.{ConstantKind}
use Rattle.sml_tree.specs.declared.patterns.ConstantKind.TheVariants as K
use Rattle.sml_narrowing.specs.Plain.{Value, Text, Character}
use Rattle.sml_patterns.specs.Stands.{IsValue}

string_same : (text s t : List ℕ) → IsStringValue text s → IsStringValue text t → s ≡ t
string_same text s t a b =
    let e = quoted_unique a.0 b.0 [] [] a.1 b.1 (ap (λ x. x ++ []) (sym a.2 ∙ b.2)) in
    a.3 ∙ ap string_value e.0 ∙ sym b.3

character_same : (text : List ℕ) (c d : ℕ) → IsCharacterValue text c → IsCharacterValue text d → c ≡ d
character_same text c d a b =
    let e = quoted_unique a.0 b.0 [] [] a.1 b.1 (ap (λ x. drop 1 x ++ []) (sym a.2 ∙ b.2)) in
    ap (λ x. get_or x 0 0) (sym a.3 ∙ ap string_value e.0 ∙ b.3)

pub text_is : (k : ConstantKind) (read text : List ℕ) (o : Option (Vec ℕ Global)) (x : Vec ℕ Global) → k ≡ K.String → read ≡ text → MatchOption o (IsString read → ⊥) (λ s. IsStringValue read s.items) → o ≡ Some x → (v : Value) → IsValue k text v → Text x.items ≡ v
text_is k read text o x e i m j v h =
    let found : IsStringValue text x.items = subst (λ r. IsStringValue r x.items) i (subst (λ q. MatchOption q (IsString read → ⊥) (λ s. IsStringValue read s.items)) j m) in
    let own = subst (λ q. IsValue q text v) e h in
    ap Text (string_same text x.items own.0 found own.1) ∙ sym own.2

pub character_is : (k : ConstantKind) (read text : List ℕ) (c : ℕ) → k ≡ K.Character → read ≡ text → IsCharacterValue read c → (v : Value) → IsValue k text v → Character c ≡ v
character_is k read text c e i m v h =
    let found : IsCharacterValue text c = subst (λ r. IsCharacterValue r c) i m in
    let own = subst (λ q. IsValue q text v) e h in
    ap Character (character_same text c own.0 found own.1) ∙ sym own.2
