-- Tokens stand in order, and faults within the unit.
use Rattle.std.proofs.Common.{◌≡◌, true, ℕ, ◌+◌, ◌<◌, ◌≤◌, List, [], ◌∷◌, drop, take, length, Bool, true, false, refl, sym, ap, subst, arith, inl, inr}
use Rattle.std.specs.Prelude.{◌==◌, if◌then◌else◌}
use Rattle.std.proofs.lemmas.Bool.{cases_lt}
use Rattle.std.proofs.lemmas.List.{length-drop, length-append}
use Rattle.sml_lex.specs.declared.fault.Code.TheVariants.{L2, L3, L4}
use Rattle.sml_lex.specs.declared.token.Stop.{Stop}
use Rattle.sml_lex.specs.declared.token.Token.{Token}
use Rattle.sml_lex.specs.declared.token.End.{End}
use Rattle.sml_lex.specs.declared.token.End.TheVariants.{Done, Fault}
use Rattle.sml_lex.specs.declared.pieces.Piece.{Piece}
use Rattle.sml_lex.specs.declared.pieces.Piece.TheVariants.{Blank, Comment, Lexeme}
use Rattle.sml_lex.specs.Strings.{items_text, break_of, IsBroken}
use Rattle.sml_lex.specs.Numbers.{fits}
use Rattle.sml_lex.specs.Tokens.{IsToken}
use Rattle.sml_lex.specs.Pieces.{IsPiece, IsFault, size_of, SpellsFrom, tokens_of, AreInOrder, TokensAreInOrder, FaultsAreWithin}
use Rattle.sml_lex.proofs.Spelling.{place_on}
use Rattle.sml_lex.proofs.Unique.{piece_there}

-- the place after a piece
pub piece_on : (unit : List ℕ) (place : ℕ) (piece : Piece) → IsPiece (drop place unit) piece → (place < place + size_of piece) × (place + size_of piece ≤ length unit)
piece_on unit place piece p = elim (cases_lt place (length unit)) [
  | inl w ↦ place_on unit place (size_of piece) piece w refl p
  | inr w ↦ absurd (piece_there (drop place unit) piece p (let l = length-drop place unit in omega (arith, l, w)))
]

lower : (unit : List ℕ) (m n : ℕ) (tokens : List Token) → m ≤ n → AreInOrder unit n tokens → AreInOrder unit m tokens
lower unit m n [] l o = omega (arith, l, o)
lower unit m n (token ∷ tokens) l o = (let a = o.0 in omega (arith, l, a), o.1, o.2, o.3, o.4)

after : (unit : List ℕ) (place : ℕ) (piece : Piece) (pieces : List Piece) → place < place + size_of piece → IsPiece (drop place unit) piece → AreInOrder unit (place + size_of piece) (tokens_of (place + size_of piece) pieces) → AreInOrder unit place (tokens_of place (piece ∷ pieces))
after unit place Blank pieces l p o = lower unit place (place + 1) (tokens_of (place + 1) pieces) (omega (arith, l)) o
after unit place (Comment size) pieces l p o = lower unit place (place + size) (tokens_of (place + size) pieces) (omega (arith, l)) o
after unit place (Lexeme lexeme) pieces l p o = (omega arith, l, subst (λ n. IsToken lexeme.kind (take n (drop place unit))) (omega arith) p.0.token, subst (λ n. fits lexeme.kind (take n (drop place unit)) ≡ true) (omega arith) p.1, o)

order : (unit : List ℕ) (pieces : List Piece) (place : ℕ) (end : End) → place ≤ length unit → SpellsFrom unit place pieces end → AreInOrder unit place (tokens_of place pieces)
order unit [] place end w s = w
order unit (piece ∷ pieces) place end w s =
    let on = piece_on unit place piece s.0 in
    after unit place piece pieces on.0 s.0 (order unit pieces (place + size_of piece) end on.1 s.1)

pub tokens_are_in_order : TokensAreInOrder
tokens_are_in_order unit tokens end (inl s) = subst (AreInOrder unit 0) (sym s.tokens_are) (order unit s.pieces 0 end (omega arith) s.spelled)
tokens_are_in_order unit tokens end (inr s) = subst (AreInOrder unit 0) (sym s.none) (omega arith)

-- a fault stands in the text or at its end
break_within : (rest : List ℕ) (point : ℕ) → (break_of rest point).at ≤ point
break_within [] point = omega arith
break_within (c ∷ rest) point = go (c == 92) (c == 10)
  where
    go : (b d : Bool) → (let stop : Stop = (if b then record {
      code = L3;
      at = point;
    } else if d then record {
      code = L2;
      at = 0;
    } else record {
      code = L4;
      at = point;
    }) in stop.at) ≤ point
    go true d = omega arith
    go false true = omega arith
    go false false = omega arith

broken_within : (text : List ℕ) (stop : Stop) → IsBroken text stop → stop.at ≤ length text
broken_within text stop b =
    let at = ap (λ s. s.at) b.fault in
    let l = ap length b.spelled in
    let m = length-append (items_text b.items) b.rest in
    let w = break_within b.rest (1 + length (items_text b.items)) in
    omega (arith, at, l, m, w)

pub fault_within : (rest : List ℕ) (stop : Stop) → 0 < length rest → IsFault rest stop → stop.at ≤ length rest
fault_within rest stop some (inl f) = let at = ap (λ s. s.at) f.fault in omega (arith, at)
fault_within rest stop some (inr (inl (inl b))) = broken_within rest stop b
fault_within rest stop some (inr (inl (inr (inl (o, inner, b, e))))) =
    let at = ap (λ s. s.at) e in
    let w = broken_within (drop 1 rest) inner b in
    let l = length-drop 1 rest in
    omega (arith, at, w, l, some)
fault_within rest stop some (inr (inl (inr (inr (o, h, e))))) = let at = ap (λ s. s.at) e in omega (arith, at)
fault_within rest stop some (inr (inr (inl f))) = let at = ap (λ s. s.at) f.fault in omega (arith, at)
fault_within rest stop some (inr (inr (inr f))) = let at = ap (λ s. s.at) f.fault in omega (arith, at)

stop_within : (unit : List ℕ) (pieces : List Piece) (place : ℕ) (stop : Stop) → SpellsFrom unit place pieces (Fault stop) → stop.at ≤ length unit
stop_within unit [] place stop s =
    let within = s.0 in
    let l = length-drop place unit in
    let w = fault_within (drop place unit) s.1 (omega (arith, l, within)) s.2 in
    let at = ap (λ s. s.at) s.3 in
    omega (arith, within, l, w, at)
stop_within unit (piece ∷ pieces) place stop s = stop_within unit pieces (place + size_of piece) stop s.1

at_of : End → ℕ
at_of Done = 0
at_of (Fault stop) = stop.at

pub faults_are_within : FaultsAreWithin
unfolding at_of
faults_are_within unit tokens stop (inl s) = stop_within unit s.pieces 0 stop s.spelled
faults_are_within unit tokens stop (inr s) = let at = ap at_of s.fault in omega (arith, at)
