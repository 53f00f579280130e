-- What stands at the front of a text is one piece or one fault.
use Rattle.std.proofs.Common.{◌≡◌, ℕ, zero, suc, ◌+◌, ◌<◌, ◌≤◌, List, [], ◌∷◌, ◌++◌, take, drop, length, Bool, true, false, Option, Some, None, Ok, Err, refl, sym, ap, ◌∙◌, subst, arith, ◌⊎◌, inl, inr, append_assoc}
use Rattle.std.specs.Prelude.{◌||◌, ◌==◌, if◌then◌else◌, Result}
use Rattle.std.proofs.lemmas.Bool.{eqb-true, eq-eqb, cond-true, cond-false, cases_lt}
use Rattle.std.proofs.lemmas.List.{length-append, length-take, take-append-drop}
use Rattle.sml_lex.specs.declared.fault.Code.TheVariants.{L1, L3, L4, L5}
use Rattle.sml_lex.specs.declared.token.Kind.{Kind}
use Rattle.sml_lex.specs.declared.token.Kind.TheVariants.{StringConstant, CharacterConstant}
use Rattle.sml_lex.specs.declared.token.Stop.{Stop}
use Rattle.sml_lex.specs.declared.pieces.Piece.{Piece}
use Rattle.sml_lex.specs.declared.pieces.Piece.TheVariants.{Blank, Comment, Lexeme}
use Rattle.sml_lex.specs.declared.machine.State.TheVariants.{Dead}
use Rattle.sml_lex.specs.Bytes.{is_white, starts_with, starts_white}
use Rattle.sml_lex.specs.Numbers.{fits}
use Rattle.sml_lex.specs.Strings.{Item, AreItems, items_text, string_value, quoted, break_of, IsBroken, opens_string, opens_character, IsCharacter}
use Rattle.sml_lex.specs.CodeStrings.{item_at}
use Rattle.sml_lex.specs.Tokens.{IsToken}
use Rattle.sml_lex.specs.CodeMachine.{first_state, part_after, token_kind}
use Rattle.sml_lex.specs.Comments.{opens_comment, IsComment}
use Rattle.sml_lex.specs.Pieces.{is_cut, fault_here, IsLexeme, IsPiece, IsFault}
use Rattle.sml_lex.proofs.ByteClasses.{white_no_letter, white_no_digit, white_no_sign, white_no_mark}
use Rattle.sml_lex.proofs.MachineRuns.{Reads, next, dead, none_is_some, false_is_true, some_same, apart, first_true, second_true}
use Rattle.sml_lex.proofs.CommentBodies.{comment_opens, comment_once}
use Rattle.sml_lex.proofs.StringItems.{item_sound}
use Rattle.sml_lex.proofs.TokensRead.{is_quoted, token_reads}
use Rattle.sml_lex.proofs.FirstTokens.{starts_take, starts_both_take, starts_one, both_starts, other_start, string_starts, character_starts, never_fresh, at_quote, at_hash, items_unique, quoted_unique, string_size, character_size}

-- by what a text starts with
data Start : Type 0 where
  White InComment InString InCharacter Plain : Start

abbrev start_of : List ℕ → Start
start_of rest = if starts_white rest then White else if opens_comment rest then InComment else if opens_string rest then InString else if opens_character rest then InCharacter else Plain

not_white : (x : ℕ) (rest : List ℕ) → is_white x ≡ false → starts_with x rest ≡ true → starts_white rest ≡ false
not_white x [] w e = refl
not_white x (c ∷ rest) w e = ap is_white (eqb-true _ _ e) ∙ w

other_single : (x y : ℕ) (rest : List ℕ) → starts_with x rest ≡ true → (x ≡ y → ⊥) → starts_with y rest ≡ false
other_single x y rest e n = go (starts_with y rest) refl
  where
    go : (b : Bool) → starts_with y rest ≡ b → starts_with y rest ≡ false
    go true h = absurd (n (starts_one x y rest e h))
    go false h = h

start_comment : (rest : List ℕ) → opens_comment rest ≡ true → start_of rest ≡ InComment
start_comment rest o = cond-false _ _ _ (not_white 40 rest refl (both_starts 40 42 rest o)) ∙ cond-true _ _ _ o

start_string : (rest : List ℕ) → opens_string rest ≡ true → start_of rest ≡ InString
start_string rest o = cond-false _ _ _ (not_white 34 rest refl o) ∙ cond-false _ _ _ (other_start 34 40 42 rest o (λ e. absurd (omega (arith, e)))) ∙ cond-true _ _ _ o

start_character : (rest : List ℕ) → opens_character rest ≡ true → start_of rest ≡ InCharacter
start_character rest o =
    let h = both_starts 35 34 rest o in
    cond-false _ _ _ (not_white 35 rest refl h) ∙ cond-false _ _ _ (other_start 35 40 42 rest h (λ e. absurd (omega (arith, e)))) ∙ cond-false _ _ _ (other_single 35 34 rest h (λ e. absurd (omega (arith, e)))) ∙ cond-true _ _ _ o

-- an answer: a piece or a fault
abbrev pub Answer : Type 0
Answer = Result Piece Stop

abbrev pub Answers : List ℕ → Answer → Type 0
Answers rest (Ok piece) = IsPiece rest piece
Answers rest (Err stop) = IsFault rest stop

-- what the answer is, by what the text starts with
record AtCharacter (rest : List ℕ) (answer : Answer) : Type 0 where
  items : List Item
  after : List ℕ
  are_items : AreItems items
  spelled : drop 1 rest ≡ quoted items ++ after
  is : answer ≡ (if length (string_value items) == 1 then Ok (Lexeme (record {
    kind = CharacterConstant;
    size = 1 + length (quoted items);
  })) else Err (fault_here L3))

record AtString (rest : List ℕ) (answer : Answer) : Type 0 where
  items : List Item
  after : List ℕ
  are_items : AreItems items
  spelled : rest ≡ quoted items ++ after
  is : answer ≡ Ok (Lexeme (record {
    kind = StringConstant;
    size = length (quoted items);
  }))

record AtToken (rest : List ℕ) (answer : Answer) : Type 0 where
  kind : Kind
  size : ℕ
  lexeme : IsLexeme rest kind size
  is : answer ≡ (if fits kind (take size rest) then Ok (Lexeme (record {
    kind = kind;
    size = size;
  })) else Err (fault_here L5))

At : Start → List ℕ → Answer → Type 0
At White rest answer = answer ≡ Ok Blank
At InComment rest answer = ((size : ℕ) × IsComment rest size × (answer ≡ Ok (Comment size))) ⊎ (((size : ℕ) → IsComment rest size → ⊥) × (answer ≡ Err (fault_here L1)))
At InString rest answer = AtString rest answer ⊎ ((stop : Stop) × IsBroken rest stop × (answer ≡ Err stop))
At InCharacter rest answer = AtCharacter rest answer ⊎ ((stop : Stop) × IsBroken (drop 1 rest) stop × (answer ≡ Err (record {
  code = stop.code;
  at = stop.at + 1;
})))
At Plain rest answer = AtToken rest answer ⊎ (((n : ℕ) (kind : Kind) → n ≤ length rest → IsToken kind (take n rest) → ⊥) × (answer ≡ Err (fault_here L4)))

-- a token, by what the text starts with
white_first : (c : ℕ) → is_white c ≡ true → first_state c ≡ Dead
white_first c w =
    cond-false _ _ _ (white_no_letter c w) ∙ cond-false _ _ _ (apart is_white 48 refl c w) ∙ cond-false _ _ _ (white_no_digit c w) ∙ cond-false _ _ _ (apart is_white 39 refl c w) ∙ cond-false _ _ _ (apart is_white 126 refl c w)
    ∙ cond-false _ _ _ (white_no_sign c w)
    ∙ cond-false _ _ _ (white_no_mark c w)
    ∙ cond-false _ _ _ (apart is_white 46 refl c w)

white_never : (c : ℕ) (text : List ℕ) (kind : Kind) → is_white c ≡ true → token_kind (c ∷ text) ≡ Some kind → ⊥
white_never c text kind w e = never_fresh c text kind (λ h. dead _ text kind (subst (λ s. Reads s (part_after [] c) text kind) (white_first c w) (next h))) e

comment_never : (text : List ℕ) (kind : Kind) → token_kind (40 ∷ 42 ∷ text) ≡ Some kind → ⊥
comment_never text kind e = never_fresh 40 (42 ∷ text) kind (λ h. dead _ text kind (next (next h))) e

quoted_start : (kind : Kind) (n : ℕ) (rest : List ℕ) → is_quoted kind ≡ true → IsToken kind (take n rest) → ((kind ≡ StringConstant) × (opens_string rest ≡ true)) ⊎ ((kind ≡ CharacterConstant) × (opens_character rest ≡ true))
quoted_start StringConstant n rest q t = inl (refl, starts_take 34 n rest (string_starts (take n rest) t))
quoted_start CharacterConstant n rest q t = inr (refl, starts_both_take 35 34 n rest (character_starts (take n rest) t))
quoted_start _ n rest q t = absurd (false_is_true q)

-- a token is a string, a character or one that the machine reads
by_quote : {R : Type 0} (kind : Kind) (n : ℕ) (rest : List ℕ) → IsToken kind (take n rest) → (kind ≡ StringConstant → opens_string rest ≡ true → R) → (kind ≡ CharacterConstant → opens_character rest ≡ true → R) → (token_kind (take n rest) ≡ Some kind → R) → R
by_quote {R} kind n rest t string character machine = go (is_quoted kind) refl
  where
    go : (b : Bool) → is_quoted kind ≡ b → R
    go true q = elim (quoted_start kind n rest q t) [ inl w ↦ string w.0 w.1 | inr w ↦ character w.0 w.1 ]
    go false q = machine (token_reads kind (take n rest) q t)

both_false : (b : Bool) → b ≡ true → b ≡ false → ⊥
both_false b e f = false_is_true (sym f ∙ e)

token_not_white : (rest : List ℕ) (kind : Kind) (n : ℕ) → IsToken kind (take n rest) → starts_white rest ≡ true → ⊥
token_not_white rest kind n t w = by_quote kind n rest t (λ e o. both_false _ w (not_white 34 rest refl o)) (λ e o. both_false _ w (not_white 35 rest refl (both_starts 35 34 rest o))) (λ m. machine n rest w m)
  where
    machine : (n : ℕ) (rest : List ℕ) → starts_white rest ≡ true → token_kind (take n rest) ≡ Some kind → ⊥
    machine zero rest w m = none_is_some kind m
    machine (suc n) [] w m = none_is_some kind m
    machine (suc n) (c ∷ rest) w m = white_never c (take n rest) kind w m

-- one byte of a text that is cut there
cut_one : (rest : List ℕ) → (opens_comment rest || opens_character rest) ≡ true → is_cut rest 1 ≡ false → ⊥
cut_one rest o f = both_false _ o f

or_first : (a b : Bool) → a ≡ true → (a || b) ≡ true
or_first true b e = refl
or_first false b e = absurd (false_is_true e)

or_second : (a b : Bool) → b ≡ true → (a || b) ≡ true
or_second true b e = refl
or_second false b e = e

lexeme_not_comment : (rest : List ℕ) (kind : Kind) (n : ℕ) → IsLexeme rest kind n → opens_comment rest ≡ true → ⊥
lexeme_not_comment rest kind n l o = by_quote kind n rest l.token (λ e s. absurd (omega (arith, starts_one 40 34 rest (both_starts 40 42 rest o) s))) (λ e s. absurd (omega (arith, starts_one 40 35 rest (both_starts 40 42 rest o) (both_starts 35 34 rest s)))) (λ m. machine n rest o l.whole m)
  where
    machine : (n : ℕ) (rest : List ℕ) → opens_comment rest ≡ true → is_cut rest n ≡ false → token_kind (take n rest) ≡ Some kind → ⊥
    machine zero rest o w m = none_is_some kind m
    machine (suc zero) rest o w m = cut_one rest (or_first _ _ o) w
    machine (suc (suc n)) [] o w m = none_is_some kind m
    machine (suc (suc n)) (c ∷ []) o w m = false_is_true (second_true (c == 40) false o)
    machine (suc (suc n)) (c ∷ d ∷ rest) o w m = comment_never (take n rest) kind (ap (λ d. token_kind (40 ∷ d ∷ take n rest)) (sym (eqb-true _ _ (second_true (c == 40) (d == 42) o))) ∙ ap (λ c. token_kind (c ∷ d ∷ take n rest)) (sym (eqb-true _ _ (first_true (c == 40) (d == 42) o))) ∙ m)

character_kind : (rest : List ℕ) (kind : Kind) (n : ℕ) → IsLexeme rest kind n → opens_character rest ≡ true → kind ≡ CharacterConstant
character_kind rest kind n l o = by_quote kind n rest l.token (λ e s. absurd (omega (arith, starts_one 34 35 rest s (both_starts 35 34 rest o)))) (λ e s. e) (λ m. absurd (machine n refl m))
  where
    machine : (m : ℕ) → n ≡ m → token_kind (take n rest) ≡ Some kind → ⊥
    machine zero e m = none_is_some kind (sym (ap (λ n. token_kind (take n rest)) e) ∙ m)
    machine (suc zero) e m = cut_one rest (or_second _ _ o) (sym (ap (is_cut rest) e) ∙ l.whole)
    machine (suc (suc k)) e m = at_hash n rest kind o (omega (arith, e)) m

string_kind : (rest : List ℕ) (kind : Kind) (n : ℕ) → IsLexeme rest kind n → opens_string rest ≡ true → kind ≡ StringConstant
string_kind rest kind n l o = by_quote kind n rest l.token (λ e s. e) (λ e s. absurd (omega (arith, starts_one 34 35 rest o (both_starts 35 34 rest s)))) (λ m. absurd (at_quote n rest kind o m))

other_number : (m n : ℕ) → (m ≡ n → ⊥) → (m == n) ≡ false
other_number m n h = go (m == n) refl
  where
    go : (b : Bool) → (m == n) ≡ b → (m == n) ≡ false
    go true e = absurd (h (eqb-true _ _ e))
    go false e = e

-- every answer, sorted
string_at : (rest : List ℕ) (n : ℕ) (answer : Answer) → IsLexeme rest StringConstant n → answer ≡ Ok (Lexeme (record {
  kind = StringConstant;
  size = n;
})) → AtString rest answer
string_at rest n answer l e =
    let t = l.token in
    let spelled : rest ≡ quoted t.0 ++ drop n rest = sym (take-append-drop n rest) ∙ ap (λ t. t ++ drop n rest) t.2 in record {
      items = t.0;
      after = drop n rest;
      are_items = t.1;
      spelled = spelled;
      is = e ∙ ap (λ n. Ok (Lexeme (record {
        kind = StringConstant;
        size = n;
      }))) (string_size rest t.0 (drop n rest) n t.1 spelled l.within t);
    }

character_at : (rest : List ℕ) (n : ℕ) (answer : Answer) → IsLexeme rest CharacterConstant n → answer ≡ Ok (Lexeme (record {
  kind = CharacterConstant;
  size = n;
})) → AtCharacter rest answer
character_at rest n answer l e =
    let t = l.token in
    let spelled : rest ≡ 35 ∷ (quoted t.0 ++ drop n rest) = sym (take-append-drop n rest) ∙ ap (λ t. t ++ drop n rest) t.3 in record {
      items = t.0;
      after = drop n rest;
      are_items = t.1;
      spelled = ap (drop 1) spelled;
      is = e ∙ ap (λ n. Ok (Lexeme (record {
        kind = CharacterConstant;
        size = n;
      }))) (character_size rest t.0 (drop n rest) n t.1 spelled l.within t) ∙ sym (cond-true _ _ _ (eq-eqb _ _ t.2));
    }

sort_token : (rest : List ℕ) (kind : Kind) (n : ℕ) (answer : Answer) → IsLexeme rest kind n → answer ≡ (if fits kind (take n rest) then Ok (Lexeme (record {
  kind = kind;
  size = n;
})) else Err (fault_here L5)) → At (start_of rest) rest answer
unfolding At
sort_token rest kind n answer l e = white (starts_white rest) refl
  where
    plain : (start_of rest ≡ Plain) → At (start_of rest) rest answer
    plain s = subst (λ s. At s rest answer) (sym s) (inl (record {
      kind = kind;
      size = n;
      lexeme = l;
      is = e;
    }))

    character : (b : Bool) → opens_character rest ≡ b → starts_white rest ≡ false → opens_comment rest ≡ false → opens_string rest ≡ false → At (start_of rest) rest answer
    character true o w c s = subst (λ s. At s rest answer) (sym (start_character rest o)) (inl (of_kind kind (character_kind rest kind n l o) l e))
      where
        of_kind : (kind : Kind) → kind ≡ CharacterConstant → IsLexeme rest kind n → answer ≡ (if fits kind (take n rest) then Ok (Lexeme (record {
          kind = kind;
          size = n;
        })) else Err (fault_here L5)) → AtCharacter rest answer
        of_kind kind k l e = character_at rest n answer (subst (λ k. IsLexeme rest k n) k l) (subst (λ k. answer ≡ (if fits k (take n rest) then Ok (Lexeme (record {
          kind = k;
          size = n;
        })) else Err (fault_here L5))) k e)
    character false o w c s = plain (cond-false _ _ _ w ∙ cond-false _ _ _ c ∙ cond-false _ _ _ s ∙ cond-false _ _ _ o)

    string : (b : Bool) → opens_string rest ≡ b → starts_white rest ≡ false → opens_comment rest ≡ false → At (start_of rest) rest answer
    string true o w c = subst (λ s. At s rest answer) (sym (start_string rest o)) (inl (string_at rest n answer (subst (λ k. IsLexeme rest k n) (string_kind rest kind n l o) l) (subst (λ k. answer ≡ (if fits k (take n rest) then Ok (Lexeme (record {
      kind = k;
      size = n;
    })) else Err (fault_here L5))) (string_kind rest kind n l o) e)))
    string false o w c = character (opens_character rest) refl w c o

    comment : (b : Bool) → opens_comment rest ≡ b → starts_white rest ≡ false → At (start_of rest) rest answer
    comment true o w = absurd (lexeme_not_comment rest kind n l o)
    comment false o w = string (opens_string rest) refl w o

    white : (b : Bool) → starts_white rest ≡ b → At (start_of rest) rest answer
    white true w = absurd (token_not_white rest kind n l.token w)
    white false w = comment (opens_comment rest) refl w

sort : (rest : List ℕ) (answer : Answer) → Answers rest answer → At (start_of rest) rest answer
unfolding At
sort rest (Ok Blank) w = subst (λ s. At s rest (Ok Blank)) (sym (cond-true _ _ _ w)) refl
sort rest (Ok (Comment size)) w = subst (λ s. At s rest (Ok (Comment size))) (sym (start_comment rest (comment_opens rest size w))) (inl (size, w, refl))
sort rest (Ok (Lexeme lexeme)) w = sort_token rest lexeme.kind lexeme.size (Ok (Lexeme lexeme)) w.0 (sym (cond-true _ _ _ w.1))
sort rest (Err stop) (inl f) = subst (λ s. At s rest (Err stop)) (sym (start_comment rest f.opens)) (inr (f.never_closed, ap Err f.fault))
sort rest (Err stop) (inr (inl (inl b))) = subst (λ s. At s rest (Err stop)) (sym (start_string rest (ap (starts_with 34) b.spelled))) (inr (stop, b, refl))
sort rest (Err stop) (inr (inl (inr (inl (o, inner, b, e))))) = subst (λ s. At s rest (Err stop)) (sym (start_character rest o)) (inr (inner, b, ap Err e))
sort rest (Err stop) (inr (inl (inr (inr (o, h, e))))) = subst (λ s. At s rest (Err stop)) (sym (start_character rest o)) (inl (record {
  items = h.items;
  after = h.rest;
  are_items = h.are_items;
  spelled = h.spelled;
  is = ap Err e ∙ sym (cond-false _ _ _ (other_number (length (string_value h.items)) 1 h.other));
}))
sort rest (Err stop) (inr (inr (inl f))) = subst (λ s. At s rest (Err stop)) (sym (cond-false _ _ _ f.not_white ∙ cond-false _ _ _ f.no_comment ∙ cond-false _ _ _ f.no_string ∙ cond-false _ _ _ f.no_character)) (inr (f.no_token, ap Err f.fault))
sort rest (Err stop) (inr (inr (inr f))) = sort_token rest f.kind f.size (Err stop) f.lexeme (ap Err f.fault ∙ sym (cond-false _ _ _ f.large))

-- each sort has one answer
none_there : (text : List ℕ) (stop : Stop) → (b : IsBroken text stop) → item_at b.rest ≡ None
none_there text stop b = go (item_at b.rest) refl
  where
    go : (o : Option Item) → item_at b.rest ≡ o → item_at b.rest ≡ None
    go None e = e
    go (Some item) e = let s = item_sound b.rest item e in absurd (b.no_item item s.1 s.0 s.2)

pub closed_or_broken : (text after : List ℕ) (items : List Item) (stop : Stop) → AreItems items → text ≡ quoted items ++ after → IsBroken text stop → ⊥
closed_or_broken text after items stop i e b =
    let u = items_unique items b.items (34 ∷ after) b.rest i b.are_items refl (none_there text stop b) (sym (append_assoc (items_text items) (34 ∷ []) after) ∙ ap (drop 1) (sym e ∙ b.spelled)) in
    false_is_true (sym b.not_closed ∙ ap (starts_with 34) (sym u.1))

broken_once : (text : List ℕ) (stop other : Stop) → IsBroken text stop → IsBroken text other → stop ≡ other
broken_once text stop other a b =
    let u = items_unique a.items b.items a.rest b.rest a.are_items b.are_items (none_there text stop a) (none_there text other b) (ap (drop 1) (sym a.spelled ∙ b.spelled)) in
    a.fault ∙ ap (λ r. break_of r (1 + length (items_text a.items))) u.1 ∙ ap (λ i. break_of b.rest (1 + length (items_text i))) u.0 ∙ sym b.fault

size_once : (rest : List ℕ) (k l : Kind) (m n : ℕ) → IsLexeme rest k m → IsLexeme rest l n → m ≡ n
size_once rest k l m n a b = elim (cases_lt m n) [ inl h ↦ absurd (a.longest n l h b.within b.token) | inr h ↦ elim (cases_lt n m) [ inl g ↦ absurd (b.longest m k g a.within a.token) | inr g ↦ omega (arith, g, h) ] ]

kind_once : (rest : List ℕ) (k l : Kind) (n : ℕ) → IsToken k (take n rest) → IsToken l (take n rest) → k ≡ l
kind_once rest k l n a b = by_quote k n rest a (λ e o. by_quote l n rest b (λ f p. e ∙ sym f) (λ f p. absurd (clash o p)) (λ m. absurd (at_quote n rest l o m))) (λ e o. by_quote l n rest b (λ f p. absurd (clash p o)) (λ f p. e ∙ sym f) (λ m. absurd (at_hash n rest l o (long k e a) m))) (
    λ m. by_quote l n rest b (λ f o. absurd (at_quote n rest k o m)) (λ f o. absurd (at_hash n rest k o (long l f b) m)) (λ o. some_same k l (sym m ∙ o))
    )
  where
    clash : opens_string rest ≡ true → opens_character rest ≡ true → ⊥
    clash o p = absurd (omega (arith, starts_one 34 35 rest o (both_starts 35 34 rest p)))

    long : (k : Kind) → k ≡ CharacterConstant → IsToken k (take n rest) → 1 < n
    long k e t =
        let c : IsCharacter (take n rest) = subst (λ k. IsToken k (take n rest)) e t in
        let l = ap length c.3 in
        let lt = length-take n rest in
        let q = length-append (items_text c.0) (34 ∷ []) in
        omega (arith, l, lt, q)

token_once : (rest : List ℕ) (a b : Answer) → AtToken rest a → AtToken rest b → a ≡ b
token_once rest a b v w = v.is ∙ ap (of_lexeme v.kind) sizes ∙ ap (λ k. of_lexeme k w.size) kinds ∙ sym w.is
  where
    of_lexeme : Kind → ℕ → Answer
    of_lexeme kind n = if fits kind (take n rest) then Ok (Lexeme (record {
      kind = kind;
      size = n;
    })) else Err (fault_here L5)

    sizes : v.size ≡ w.size
    sizes = size_once rest v.kind w.kind v.size w.size v.lexeme w.lexeme

    kinds : v.kind ≡ w.kind
    kinds = kind_once rest v.kind w.kind w.size (subst (λ n. IsToken v.kind (take n rest)) sizes v.lexeme.token) w.lexeme.token

string_once : (rest : List ℕ) (a b : Answer) → AtString rest a → AtString rest b → a ≡ b
string_once rest a b v w = v.is ∙ ap of_items (quoted_unique v.items w.items v.after w.after v.are_items w.are_items (sym v.spelled ∙ w.spelled)).0 ∙ sym w.is
  where
    of_items : List Item → Answer
    of_items items = Ok (Lexeme (record {
      kind = StringConstant;
      size = length (quoted items);
    }))

character_once : (rest : List ℕ) (a b : Answer) → AtCharacter rest a → AtCharacter rest b → a ≡ b
character_once rest a b v w = v.is ∙ ap of_items (quoted_unique v.items w.items v.after w.after v.are_items w.are_items (sym v.spelled ∙ w.spelled)).0 ∙ sym w.is
  where
    of_items : List Item → Answer
    of_items items = if length (string_value items) == 1 then Ok (Lexeme (record {
      kind = CharacterConstant;
      size = 1 + length (quoted items);
    })) else Err (fault_here L3)

once : (s : Start) (rest : List ℕ) (a b : Answer) → At s rest a → At s rest b → a ≡ b
unfolding At
once White rest a b v w = v ∙ sym w
once InComment rest a b (inl (m, v, e)) (inl (n, w, f)) = e ∙ ap (λ n. Ok (Comment n)) (comment_once rest m n v w) ∙ sym f
once InComment rest a b (inl (m, v, e)) (inr (n, f)) = absurd (n m v)
once InComment rest a b (inr (m, e)) (inl (n, w, f)) = absurd (m n w)
once InComment rest a b (inr (m, e)) (inr (n, f)) = e ∙ sym f
once InString rest a b (inl v) (inl w) = string_once rest a b v w
once InString rest a b (inl v) (inr (stop, w, f)) = absurd (closed_or_broken rest v.after v.items stop v.are_items v.spelled w)
once InString rest a b (inr (stop, v, e)) (inl w) = absurd (closed_or_broken rest w.after w.items stop w.are_items w.spelled v)
once InString rest a b (inr (stop, v, e)) (inr (other, w, f)) = e ∙ ap Err (broken_once rest stop other v w) ∙ sym f
once InCharacter rest a b (inl v) (inl w) = character_once rest a b v w
once InCharacter rest a b (inl v) (inr (stop, w, f)) = absurd (closed_or_broken (drop 1 rest) v.after v.items stop v.are_items v.spelled w)
once InCharacter rest a b (inr (stop, v, e)) (inl w) = absurd (closed_or_broken (drop 1 rest) w.after w.items stop w.are_items w.spelled v)
once InCharacter rest a b (inr (stop, v, e)) (inr (other, w, f)) = e ∙ ap (λ s. Err (record {
  code = s.code;
  at = s.at + 1;
})) (broken_once (drop 1 rest) stop other v w) ∙ sym f
once Plain rest a b (inl v) (inl w) = token_once rest a b v w
once Plain rest a b (inl v) (inr (n, f)) = absurd (n v.size v.kind v.lexeme.within v.lexeme.token)
once Plain rest a b (inr (n, e)) (inl w) = absurd (n w.size w.kind w.lexeme.within w.lexeme.token)
once Plain rest a b (inr (n, e)) (inr (m, f)) = e ∙ sym f

-- there is one answer
pub answers_once : (rest : List ℕ) (a b : Answer) → Answers rest a → Answers rest b → a ≡ b
answers_once rest a b v w = once (start_of rest) rest a b (sort rest a v) (sort rest b w)
