-- The token at the front of a text.
use Rattle.std.proofs.Common.{append_assoc, ◌≡◌, ℕ, zero, suc, ◌+◌, ◌<◌, ◌≤◌, List, [], ◌∷◌, ◌++◌, take, drop, length, Bool, true, false, Some, None, refl, sym, ap, ◌∙◌, arith}
use Rattle.std.specs.Prelude.{◌&&◌, ◌||◌, ◌==◌}
use Rattle.std.proofs.Math.Seq.{take-append_seam, drop-append_seam}
use Rattle.std.proofs.lemmas.Bool.{eqb-true}
use Rattle.std.proofs.lemmas.List.{take-append-drop, length-take-le, length-append}
use Rattle.sml_lex.specs.declared.token.Kind.{Kind}
use Rattle.sml_lex.specs.declared.token.Kind.TheVariants.{StringConstant, CharacterConstant}
use Rattle.sml_lex.specs.declared.longest.Lexeme.{Lexeme}
use Rattle.sml_lex.specs.declared.strings.Extent.{Extent}
use Rattle.sml_lex.specs.declared.machine.State.TheVariants.{Fresh}
use Rattle.sml_lex.specs.Bytes.{starts_with, starts_with_both}
use Rattle.sml_lex.specs.Strings.{Item, item_text, AreItems, items_text, quoted, opens_string, opens_character, IsString, IsCharacter, HasOtherLength}
use Rattle.sml_lex.specs.CodeStrings.{item_at, IsQuoted}
use Rattle.sml_lex.specs.Tokens.{IsToken}
use Rattle.sml_lex.specs.CodeMachine.{token_kind, IsLongestWithin}
use Rattle.sml_lex.specs.Comments.{opens_comment}
use Rattle.sml_lex.specs.Pieces.{is_cut, IsLexeme}
use Rattle.sml_lex.proofs.MachineRuns.{and_false, Reads, next, dead, none_is_some, false_is_true, first_true, second_true}
use Rattle.sml_lex.proofs.ReadTokens.{token_read}
use Rattle.sml_lex.proofs.StringItems.{none_is_item, same_item, item_complete}
use Rattle.sml_lex.proofs.TokensRead.{is_quoted, token_reads}

-- first bytes
pub starts_take : (x n : ℕ) (rest : List ℕ) → starts_with x (take n rest) ≡ true → starts_with x rest ≡ true
starts_take x zero rest e = absurd (false_is_true e)
starts_take x (suc n) [] e = e
starts_take x (suc n) (c ∷ rest) e = e

pub starts_both_take : (x y n : ℕ) (rest : List ℕ) → starts_with_both x y (take n rest) ≡ true → starts_with_both x y rest ≡ true
starts_both_take x y zero rest e = absurd (false_is_true e)
starts_both_take x y (suc n) [] e = e
starts_both_take x y (suc n) (c ∷ rest) e = go (c == x) e
  where
    go : (b : Bool) → (b && starts_with y (take n rest)) ≡ true → (b && starts_with y rest) ≡ true
    go true e = starts_take y n rest e
    go false e = e

pub starts_one : (x y : ℕ) (text : List ℕ) → starts_with x text ≡ true → starts_with y text ≡ true → x ≡ y
starts_one x y [] e f = absurd (false_is_true e)
starts_one x y (c ∷ text) e f = sym (eqb-true _ _ e) ∙ eqb-true _ _ f

pub both_starts : (x y : ℕ) (text : List ℕ) → starts_with_both x y text ≡ true → starts_with x text ≡ true
both_starts x y [] e = e
both_starts x y (c ∷ text) e = first_true (c == x) (starts_with y text) e

pub other_start : (x y z : ℕ) (text : List ℕ) → starts_with x text ≡ true → (x ≡ y → ⊥) → starts_with_both y z text ≡ false
other_start x y z text e n = go (starts_with_both y z text) refl
  where
    go : (b : Bool) → starts_with_both y z text ≡ b → starts_with_both y z text ≡ false
    go true h = absurd (n (starts_one x y text e (both_starts y z text h)))
    go false h = h

pub string_starts : (text : List ℕ) → IsString text → opens_string text ≡ true
string_starts text s = ap (starts_with 34) s.2

pub character_starts : (text : List ℕ) → IsCharacter text → opens_character text ≡ true
character_starts text s = ap (starts_with_both 35 34) s.3

-- a token that is cut
or_false : (a b : Bool) → a ≡ false → b ≡ false → (a || b) ≡ false
or_false true b e f = absurd (false_is_true (sym e))
or_false false b e f = f

pub whole_there : (rest : List ℕ) (size : ℕ) → opens_comment rest ≡ false → opens_character rest ≡ false → is_cut rest size ≡ false
whole_there rest size c h = and_false (size == 1) _ (or_false _ _ c h)

pub whole_long : (rest : List ℕ) (size : ℕ) → 1 < size → is_cut rest size ≡ false
whole_long rest size l = go (size == 1) refl
  where
    go : (b : Bool) → (size == 1) ≡ b → (b && (opens_comment rest || opens_character rest)) ≡ false
    go true e = let one : size ≡ 1 = eqb-true _ _ e in absurd (omega (arith, one, l))
    go false e = refl

-- what the machine doesn't read
pub never_fresh : (c : ℕ) (text : List ℕ) (kind : Kind) → (Reads Fresh [] (c ∷ text) kind → ⊥) → token_kind (c ∷ text) ≡ Some kind → ⊥
never_fresh c text kind n e = n (record { read = e })

quote_never : (text : List ℕ) (kind : Kind) → token_kind (34 ∷ text) ≡ Some kind → ⊥
quote_never text kind e = never_fresh 34 text kind (λ h. dead _ text kind (next h)) e

hash_quote_never : (text : List ℕ) (kind : Kind) → token_kind (35 ∷ 34 ∷ text) ≡ Some kind → ⊥
hash_quote_never text kind e = never_fresh 35 (34 ∷ text) kind (λ h. dead _ text kind (next (next h))) e

pub at_quote : (n : ℕ) (rest : List ℕ) (kind : Kind) → opens_string rest ≡ true → token_kind (take n rest) ≡ Some kind → ⊥
at_quote zero rest kind o e = none_is_some kind e
at_quote (suc n) [] kind o e = none_is_some kind e
at_quote (suc n) (c ∷ rest) kind o e = quote_never (take n rest) kind (ap (λ c. token_kind (c ∷ take n rest)) (sym (eqb-true _ _ o)) ∙ e)

pub at_hash : (n : ℕ) (rest : List ℕ) (kind : Kind) → opens_character rest ≡ true → 1 < n → token_kind (take n rest) ≡ Some kind → ⊥
at_hash zero rest kind o l e = absurd (omega (arith, l))
at_hash (suc zero) rest kind o l e = absurd (omega (arith, l))
at_hash (suc (suc n)) [] kind o l e = none_is_some kind e
at_hash (suc (suc n)) (c ∷ []) kind o l e = false_is_true (second_true (c == 35) false o)
at_hash (suc (suc n)) (c ∷ d ∷ rest) kind o l e = hash_quote_never (take n rest) kind (ap (λ d. token_kind (35 ∷ d ∷ take n rest)) (sym (eqb-true _ _ (second_true (c == 35) (d == 34) o))) ∙ ap (λ c. token_kind (c ∷ d ∷ take n rest)) (sym (eqb-true _ _ (first_true (c == 35) (d == 34) o))) ∙ e)

-- strings are unique
append_same : (a x y : List ℕ) → a ++ x ≡ a ++ y → x ≡ y
append_same a x y e = sym (drop-append_seam a x) ∙ ap (drop (length a)) e ∙ drop-append_seam a y

pub items_unique : (a b : List Item) (x y : List ℕ) → AreItems a → AreItems b → item_at x ≡ None → item_at y ≡ None → items_text a ++ x ≡ items_text b ++ y → (a ≡ b) × (x ≡ y)
items_unique [] [] x y i j m n e = (refl, e)
items_unique [] (b ∷ second) x y i j m n e = absurd (none_is_item b (sym m ∙ ap item_at (e ∙ append_assoc (item_text b) (items_text second) y) ∙ item_complete b (items_text second ++ y) j.0))
items_unique (a ∷ first) [] x y i j m n e = absurd (none_is_item a (sym n ∙ ap item_at (sym e ∙ append_assoc (item_text a) (items_text first) x) ∙ item_complete a (items_text first ++ x) i.0))
items_unique (a ∷ first) (b ∷ second) x y i j m n e = go same_first (items_unique first second x y i.1 j.1 m n)
  where
    spelled : item_text a ++ (items_text first ++ x) ≡ item_text b ++ (items_text second ++ y)
    spelled = sym (append_assoc (item_text a) (items_text first) x) ∙ e ∙ append_assoc (item_text b) (items_text second) y

    same_first : a ≡ b
    same_first = same_item a b (sym (item_complete a (items_text first ++ x) i.0) ∙ ap item_at spelled ∙ item_complete b (items_text second ++ y) j.0)

    go : a ≡ b → (items_text first ++ x ≡ items_text second ++ y → (first ≡ second) × (x ≡ y)) → (a ∷ first ≡ b ∷ second) × (x ≡ y)
    go s rest =
        let r = rest (append_same (item_text a) (items_text first ++ x) (items_text second ++ y) (spelled ∙ ap (λ i. item_text i ++ (items_text second ++ y)) (sym s))) in
        (ap (λ i. i ∷ first) s ∙ ap (λ is. b ∷ is) r.0, r.1)

pub quoted_unique : (a b : List Item) (x y : List ℕ) → AreItems a → AreItems b → quoted a ++ x ≡ quoted b ++ y → (a ≡ b) × (x ≡ y)
quoted_unique a b x y i j e =
    let r = items_unique a b (34 ∷ x) (34 ∷ y) i j refl refl (sym (append_assoc (items_text a) (34 ∷ []) x) ∙ ap (drop 1) e ∙ append_assoc (items_text b) (34 ∷ []) y) in
    (r.0, ap (drop 1) r.1)

-- a string at the front
pub string_size : (rest : List ℕ) (items : List Item) (after : List ℕ) (n : ℕ) → AreItems items → rest ≡ quoted items ++ after → n ≤ length rest → IsString (take n rest) → n ≡ length (quoted items)
string_size rest items after n i e l s = sym (length-take-le n rest l) ∙ ap length s.2 ∙ ap (λ items. length (quoted items)) (quoted_unique s.0 items (drop n rest) after s.1 i (ap (λ t. t ++ drop n rest) (sym s.2) ∙ take-append-drop n rest ∙ e)).0

pub string_lexeme : (rest : List ℕ) (size : Extent) → IsQuoted rest size → IsLexeme rest StringConstant size.bytes
string_lexeme rest size q = record {
  within = let l = ap length q.spelled ∙ length-append (quoted q.items) q.rest in let b = q.bytes in omega (arith, l, b);
  token = (q.items, q.are_items, ap (λ n. take n rest) q.bytes ∙ ap (take (length (quoted q.items))) q.spelled ∙ take-append_seam (quoted q.items) q.rest);
  whole = whole_there rest size.bytes (other_start 34 40 42 rest opens (λ e. absurd (omega (arith, e)))) (other_start 34 35 34 rest opens (λ e. absurd (omega (arith, e))));
  longest = λ n other l h t. longest n other l h t (is_quoted other) refl;
}
  where
    opens : opens_string rest ≡ true
    opens = ap (starts_with 34) q.spelled

    quoted_other : (other : Kind) (n : ℕ) → size.bytes < n → n ≤ length rest → is_quoted other ≡ true → IsToken other (take n rest) → ⊥
    quoted_other StringConstant n l h e t = let b = q.bytes in let s = string_size rest q.items q.rest n q.are_items q.spelled h t in omega (arith, b, s, l)
    quoted_other CharacterConstant n l h e t = let f = starts_one 34 35 rest opens (both_starts 35 34 rest (starts_both_take 35 34 n rest (character_starts (take n rest) t))) in omega (arith, f)
    quoted_other _ n l h e t = false_is_true e

    longest : (n : ℕ) (other : Kind) → size.bytes < n → n ≤ length rest → IsToken other (take n rest) → (b : Bool) → is_quoted other ≡ b → ⊥
    longest n other l h t true e = quoted_other other n l h e t
    longest n other l h t false e = at_quote n rest other opens (token_reads other (take n rest) e t)

-- a character at the front
pub hash_first : (rest : List ℕ) → opens_character rest ≡ true → rest ≡ 35 ∷ drop 1 rest
hash_first [] e = absurd (false_is_true e)
hash_first (c ∷ rest) e = ap (λ c. c ∷ rest) (eqb-true _ _ (first_true (c == 35) (starts_with 34 rest) e))

pub character_size : (rest : List ℕ) (items : List Item) (after : List ℕ) (n : ℕ) → AreItems items → rest ≡ 35 ∷ (quoted items ++ after) → n ≤ length rest → IsCharacter (take n rest) → n ≡ 1 + length (quoted items)
character_size rest items after n i e l s =
    let same = ap (λ items. length (quoted items)) (quoted_unique s.0 items (drop n rest) after s.1 i (ap (drop 1) (ap (λ t. t ++ drop n rest) (sym s.3) ∙ take-append-drop n rest ∙ e))).0 in
    let size = sym (length-take-le n rest l) ∙ ap length s.3 in
    omega (arith, same, size)

pub character_lexeme : (rest : List ℕ) (size : Extent) → opens_character rest ≡ true → IsQuoted (drop 1 rest) size → size.characters ≡ 1 → IsLexeme rest CharacterConstant (size.bytes + 1)
character_lexeme rest size o q one = record {
  within = let l = ap length spelled ∙ length-append (35 ∷ quoted q.items) q.rest in let b = q.bytes in omega (arith, l, b);
  token = (q.items, q.are_items, sym q.characters ∙ one, ap (λ n. take n rest) bytes ∙ ap (take (length (35 ∷ quoted q.items))) spelled ∙ take-append_seam (35 ∷ quoted q.items) q.rest);
  whole = whole_long rest (size.bytes + 1) (let b = q.bytes in omega (arith, b));
  longest = λ n other l h t. longest n other l h t (is_quoted other) refl;
}
  where
    bytes : size.bytes + 1 ≡ length (35 ∷ quoted q.items)
    bytes = let b = q.bytes in omega (arith, b)

    spelled : rest ≡ 35 ∷ (quoted q.items ++ q.rest)
    spelled = hash_first rest o ∙ ap (λ t. 35 ∷ t) q.spelled

    quoted_other : (other : Kind) (n : ℕ) → size.bytes + 1 < n → n ≤ length rest → is_quoted other ≡ true → IsToken other (take n rest) → ⊥
    quoted_other StringConstant n l h e t = let f = starts_one 34 35 rest (starts_take 34 n rest (string_starts (take n rest) t)) (both_starts 35 34 rest o) in omega (arith, f)
    quoted_other CharacterConstant n l h e t = let b = q.bytes in let s = character_size rest q.items q.rest n q.are_items spelled h t in omega (arith, b, s, l)
    quoted_other _ n l h e t = false_is_true e

    longest : (n : ℕ) (other : Kind) → size.bytes + 1 < n → n ≤ length rest → IsToken other (take n rest) → (b : Bool) → is_quoted other ≡ b → ⊥
    longest n other l h t true e = quoted_other other n l h e t
    longest n other l h t false e = at_hash n rest other o (let b = q.bytes in omega (arith, b, l)) (token_reads other (take n rest) e t)

-- another token at the front
quoted_never : (rest : List ℕ) (other : Kind) (n : ℕ) → opens_string rest ≡ false → opens_character rest ≡ false → is_quoted other ≡ true → IsToken other (take n rest) → ⊥
quoted_never rest StringConstant n s h e t = false_is_true (sym s ∙ starts_take 34 n rest (string_starts (take n rest) t))
quoted_never rest CharacterConstant n s h e t = false_is_true (sym h ∙ starts_both_take 35 34 n rest (character_starts (take n rest) t))
quoted_never rest _ n s h e t = false_is_true e

pub no_token : (rest : List ℕ) (n : ℕ) (other : Kind) → opens_string rest ≡ false → opens_character rest ≡ false → token_kind (take n rest) ≡ None → IsToken other (take n rest) → ⊥
no_token rest n other s h none t = go (is_quoted other) refl
  where
    go : (b : Bool) → is_quoted other ≡ b → ⊥
    go true e = quoted_never rest other n s h e t
    go false e = none_is_some other (sym none ∙ token_reads other (take n rest) e t)

pub machine_lexeme : (rest : List ℕ) (lexeme : Lexeme) → opens_comment rest ≡ false → opens_string rest ≡ false → opens_character rest ≡ false → IsLongestWithin rest (length rest) (Some lexeme) → IsLexeme rest lexeme.kind lexeme.size
machine_lexeme rest lexeme c s h m = record {
  within = m.0;
  token = token_read (take lexeme.size rest) lexeme.kind m.1;
  whole = whole_there rest lexeme.size c h;
  longest = λ n other l k t. no_token rest n other s h (m.2 n l k) t;
}

pub other_length : (text : List ℕ) (size : Extent) → IsQuoted text size → (size.characters ≡ 1 → ⊥) → HasOtherLength text
other_length text size q n = record {
  items = q.items;
  rest = q.rest;
  are_items = q.are_items;
  spelled = q.spelled;
  other = λ e. n (q.characters ∙ e);
}

-- no token is empty
pub never_empty : (kind : Kind) → IsToken kind [] → ⊥
never_empty kind t = go (is_quoted kind) refl
  where
    quoted_empty : (kind : Kind) → is_quoted kind ≡ true → IsToken kind [] → ⊥
    quoted_empty StringConstant e t = false_is_true (string_starts [] t)
    quoted_empty CharacterConstant e t = false_is_true (character_starts [] t)
    quoted_empty _ e t = false_is_true e

    go : (b : Bool) → is_quoted kind ≡ b → ⊥
    go true e = quoted_empty kind e t
    go false e = none_is_some kind (token_reads kind [] e t)
