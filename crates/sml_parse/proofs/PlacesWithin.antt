-- The places of a unit's trees and of its last fault.
use Rattle.std.proofs.Common.{◌≡◌, ℕ, zero, suc, ◌+◌, ◌-◌, ◌<◌, ◌≤◌, List, [], ◌∷◌, Bool, true, false, Option, Some, None, map, length, take, drop, get_or, refl, sym, ap, ◌∙◌, subst, arith, inl, inr}
use Rattle.std.specs.Prelude.{slice_get, unwrap_or, IfSome, if◌then◌else◌, ◌==◌}
use Rattle.std.specs.Option.{option_map, is_some}
use Rattle.std.specs.List.{list_all, before_first}
use Rattle.std.proofs.lemmas.Bool.{and_parts, false≢true}
use Rattle.std.proofs.lemmas.List.{length-map, length-take-le}
use Rattle.std.proofs.lemmas.List.Elements.{All-cons}
use Rattle.std.proofs.lemmas.Option.{slice_get-get_or, slice_get_within}
use Rattle.sml_lex.specs.declared.fault.Code.TheVariants as C
use Rattle.sml_lex.specs.declared.fault.Place.{Place}
use Rattle.sml_lex.specs.declared.token.Kind.TheVariants.{Comma}
use Rattle.sml_lex.specs.declared.token.Stop.{Stop}
use Rattle.sml_lex.specs.declared.token.Token.{Token}
use Rattle.sml_lex.specs.declared.token.End.{End}
use Rattle.sml_lex.specs.declared.token.End.TheVariants as E
use Rattle.sml_lex.specs.declared.pieces.Piece.{Piece}
use Rattle.sml_lex.specs.declared.pieces.Piece.TheVariants.{Blank, Comment, Lexeme}
use Rattle.sml_lex.specs.Pieces.{Spells, SpellsFrom, IsFault, AreInOrder, size_of, tokens_of}
use Rattle.sml_lex.specs.Strings.{IsBroken, break_of}
use Rattle.sml_lex.proofs.Order.{tokens_are_in_order, faults_are_within}
use Rattle.sml_lex.specs.Faults.{first_place}
use Rattle.sml_tree.specs.Structures.{TopDec}
use Rattle.sml_tree.specs.Trees.{Dec}
use Rattle.sml_read.specs.declared.grammar.Node.{Node}
use Rattle.sml_read.specs.declared.grammar.Node.TheVariants.{Leaf, Inner}
use Rattle.sml_read.specs.declared.read.Cause.{Cause}
use Rattle.sml_read.specs.declared.read.Cause.TheVariants.{Unexpected, TooEarly, Lexical}
use Rattle.sml_read.specs.Spelling.{kinds_of}
use Rattle.sml_read.specs.Answer.{is_done, IsCauseOf}
use Rattle.sml_reach.specs.Places.{place_after, place_from}
use Rattle.sml_reach.specs.Places.{start_of}
use Rattle.sml_reach.specs.declared.reach.Misfit.{Misfit}
use Rattle.sml_reach.specs.Reach.{up_to, before_misfit}
use Rattle.sml_reach.specs.Fits.{Fitted}
use Rattle.sml_bare.specs.Derivations.{bare_dec_at, bare_decs, before_none}
use Rattle.sml_piece_trees.specs.Piece.{piece_of}
use Rattle.sml_parse.specs.Trees.{fault_from, fault_read, fault_after}
use Rattle.sml_parse.specs.Within.{Extent, begins_next, tokens_before, extents_of, IsOfToken, TopsStandInTurn, StandInTurn, Reason, of_bytes, reason_of, StandsBy, StandsLast, PlacesAreWithin}
use Rattle.sml_parse.proofs.Nonempty.{HasToken, HaveTokens, have_tokens}
use Rattle.sml_parse.proofs.Extents.{of_token}
use Rattle.sml_parse.proofs.EachTop.{no_token, start_is, TopsInTurn, tops_stand}
use Rattle.sml_parse.proofs.EachPiece.{piece_each}
use Rattle.sml_reach.proofs.Somes.{none_some}
use Rattle.sml_reach.proofs.Somes.{some_same}
use Rattle.sml_parse.proofs.MisfitsWithin.{IsPlaced, misfit_placed}
use Rattle.sml_parse.proofs.FlawsWithin.{begins_same, flawed_placed}
use Rattle.sml_flaws.specs.Flawed.{or_else, ends_at}
use Rattle.sml_reach.specs.Events.{text_at}

module _ (unit : List ℕ) (tokens : List Token) where
  -- so many declarations at most
  most_in_turn : (most : Option ℕ) (extents : List Extent) (tops : List (Option (TopDec Place))) → TopsInTurn unit tokens extents tops → TopsInTurn unit tokens extents (up_to most tops)
  most_in_turn None extents tops h = h
  most_in_turn (Some most) extents tops h = taken most extents tops h
    where
      taken : (most : ℕ) (extents : List Extent) (tops : List (Option (TopDec Place))) → TopsInTurn unit tokens extents tops → TopsInTurn unit tokens extents (take most tops)
      taken zero extents tops h = tt
      taken (suc most) extents [] h = tt
      taken (suc most) [] (top ∷ tops) h = absurd h
      taken (suc most) (extent ∷ extents) (top ∷ tops) h = (h.0, taken most extents tops h.1)

  -- those before the first that is too high
  made_in_turn : (extents : List Extent) (tops : List (Option (TopDec Place))) → TopsInTurn unit tokens extents tops → TopsStandInTurn unit tokens extents (before_none tops)
  made_in_turn extents [] h = tt
  made_in_turn [] (top ∷ tops) h = absurd h
  made_in_turn (extent ∷ extents) (None ∷ tops) h = tt
  made_in_turn (extent ∷ extents) (Some top ∷ tops) h = (h.0, made_in_turn extents tops h.1)

  -- as trees of the piece
  pieces_in_turn : (extents : List Extent) (tops : List (TopDec Place)) → TopsStandInTurn unit tokens extents tops → StandInTurn unit tokens extents (map piece_of tops)
  pieces_in_turn extents [] h = tt
  pieces_in_turn [] (top ∷ tops) h = absurd h
  pieces_in_turn (extent ∷ extents) (top ∷ tops) h = (piece_each (IsOfToken unit tokens extent) top h.0.0 h.0.1, pieces_in_turn extents tops h.1)

-- the lexical fault stands after the tokens

stop_on : (unit : List ℕ) (place : ℕ) (pieces : List Piece) (stop : Stop) → SpellsFrom unit place pieces (E.Fault stop) → place ≤ stop.at
stop_on unit place [] stop s = let e = ap (λ (s : Stop). s.at) s.3 in omega (arith, e)
stop_on unit place (piece ∷ pieces) stop s = let r = stop_on unit (place + size_of piece) pieces stop s.1 in omega (arith, r)

stop_after : (unit : List ℕ) (place : ℕ) (pieces : List Piece) (stop : Stop) (index : ℕ) → SpellsFrom unit place pieces (E.Fault stop)
    → start_of (tokens_of place pieces) index stop.at ≤ stop.at
stop_after unit place [] stop index s = omega arith
stop_after unit place (Blank ∷ pieces) stop index s = stop_after unit (place + 1) pieces stop index s.1
stop_after unit place (Comment size ∷ pieces) stop index s = stop_after unit (place + size) pieces stop index s.1
stop_after unit place (Lexeme lexeme ∷ pieces) stop zero s = stop_on unit place (Lexeme lexeme ∷ pieces) stop s
stop_after unit place (Lexeme lexeme ∷ pieces) stop (suc index) s = stop_after unit (place + lexeme.size) pieces stop index s.1

after_tokens : (unit : List ℕ) (tokens : List Token) (stop : Stop) (index : ℕ) → Spells unit tokens (E.Fault stop) → start_of tokens index stop.at ≤ stop.at
after_tokens unit tokens stop index (inl s) = subst (λ ts. start_of ts index stop.at ≤ stop.at) (sym s.tokens_are) (stop_after unit 0 s.pieces stop index s.spelled)
after_tokens unit tokens stop index (inr s) = subst (λ ts. start_of ts index stop.at ≤ stop.at) (sym s.none) (omega arith)

-- the codes of lexical faults

break_reason : (rest : List ℕ) (point : ℕ) → reason_of (break_of rest point).code ≡ of_bytes
break_reason [] point = refl
break_reason (c ∷ rest) point = go (c == 92) (c == 10)
  where
    go : (b d : Bool) → (let stop : Stop = (if b then record {
      code = C.L3;
      at = point;
    } else if d then record {
      code = C.L2;
      at = 0;
    } else record {
      code = C.L4;
      at = point;
    }) in reason_of stop.code) ≡ of_bytes
    go true d = refl
    go false true = refl
    go false false = refl

string_reason : (text : List ℕ) (stop : Stop) → IsBroken text stop → reason_of stop.code ≡ of_bytes
string_reason text stop b = ap (λ (s : Stop). reason_of s.code) b.fault ∙ break_reason b.rest _

fault_reason : (rest : List ℕ) (stop : Stop) → IsFault rest stop → reason_of stop.code ≡ of_bytes
fault_reason rest stop (inl f) = ap (λ (s : Stop). reason_of s.code) f.fault
fault_reason rest stop (inr (inl (inl b))) = string_reason rest stop b
fault_reason rest stop (inr (inl (inr (inl (o, inner, b, e))))) = ap (λ (s : Stop). reason_of s.code) e ∙ string_reason (drop 1 rest) inner b
fault_reason rest stop (inr (inl (inr (inr (o, h, e))))) = ap (λ (s : Stop). reason_of s.code) e
fault_reason rest stop (inr (inr (inl f))) = ap (λ (s : Stop). reason_of s.code) f.fault
fault_reason rest stop (inr (inr (inr f))) = ap (λ (s : Stop). reason_of s.code) f.fault

stop_reason : (unit : List ℕ) (place : ℕ) (pieces : List Piece) (stop : Stop) → SpellsFrom unit place pieces (E.Fault stop) → reason_of stop.code ≡ of_bytes
stop_reason unit place [] stop s = ap (λ (s : Stop). reason_of s.code) s.3 ∙ fault_reason (drop place unit) s.1 s.2
stop_reason unit place (piece ∷ pieces) stop s = stop_reason unit (place + size_of piece) pieces stop s.1

reason_at : End → Reason
reason_at E.Done = of_bytes
reason_at (E.Fault stop) = reason_of stop.code

bytes_reason : (unit : List ℕ) (tokens : List Token) (stop : Stop) → Spells unit tokens (E.Fault stop) → reason_of stop.code ≡ of_bytes
unfolding reason_at
bytes_reason unit tokens stop (inl s) = stop_reason unit 0 s.pieces stop s.spelled
bytes_reason unit tokens stop (inr s) = ap reason_at s.fault

-- the last fault

-- an extent among these has a token
have_at : (most : ℕ) (extents : List Extent) (i : ℕ) (extent : Extent) → HaveTokens most extents → slice_get extents i ≡ Some extent → HasToken most extent
have_at most [] i extent h e = absurd (none_some e)
have_at most (x ∷ extents) zero extent h e = subst (HasToken most) (some_same e) h.0
have_at most (x ∷ extents) (suc i) extent h e = have_at most extents i extent h.1 e

module _ (unit : List ℕ) (tokens : List Token) (o : AreInOrder unit 0 tokens) (nodes : List Node) (before : ℕ) where
  at_token : (begun index : ℕ) → begun ≤ index → index < length tokens → IsOfToken unit tokens (record { first = begun; after = length tokens }) (place_from unit (start_of tokens begun 0) (start_of tokens index 0))
  at_token begun index f b =
      let token = get_or tokens index no_token in
      let e = slice_get-get_or tokens index no_token b in
      of_token unit tokens (record { first = begun; after = length tokens }) index token _ o e f b (ap (place_from unit (start_of tokens begun 0)) (start_is tokens index token e))

  last_read : (end : End) (begun : ℕ) (cause : Option Cause) → Spells unit tokens end → IsCauseOf (kinds_of tokens) (is_done end) begun cause
      → IfSome (fault_read unit tokens end begun cause) (StandsLast unit tokens end nodes begun before)
  last_read end begun None s c = tt
  last_read end begun (Some (Unexpected index)) s c =
      let n = length-map tokens (λ (t : Token). t.kind) in
      let b = c.1 in
      at_token begun index c.0 (omega (arith, n, b))
  last_read end begun (Some TooEarly) s c =
      let n = length-map tokens (λ (t : Token). t.kind) in
      let b = c.1 in
      at_token begun (length tokens - 1) (omega (arith, n, b)) (omega (arith, n, b))
  last_read E.Done begun (Some Lexical) s c = tt
  last_read (E.Fault stop) begun (Some Lexical) s c =
      subst (λ r. StandsBy r unit tokens (E.Fault stop) nodes begun before (place_from unit (start_of tokens begun stop.at) stop.at)) (sym (bytes_reason unit tokens stop s))
      (record { stop = stop; ended = refl; ahead = after_tokens unit tokens stop begun s; within = faults_are_within unit tokens stop s; counted = refl })

  -- that of fixity
  misfit_stands : (m : Misfit) (end : End) (begun : ℕ) → HaveTokens (length tokens) (extents_of 0 nodes) → IsPlaced (extents_of 0 nodes) m → before ≡ m.number - 1
      → IfSome (fault_from unit m.code (start_of tokens m.begun 0) (start_of tokens m.token 0)) (StandsLast unit tokens end nodes begun before)
  misfit_stands m end begun have x n =
      let extent = x.0 in
      let f = x.4.0 in
      let b = x.4.1 in
      let most = (have_at (length tokens) (extents_of 0 nodes) (m.number - 1) extent have x.1).1 in
      let token = get_or tokens m.token no_token in
      let e = slice_get-get_or tokens m.token no_token (omega (arith, b, most)) in
      let counted = ap (λ k. place_from unit (start_of tokens k 0) (start_of tokens m.token 0)) x.3 ∙ ap (place_from unit (start_of tokens extent.first 0)) (start_is tokens m.token token e) in
      subst (λ r. StandsBy r unit tokens end nodes begun before (place_from unit (start_of tokens m.begun 0) (start_of tokens m.token 0))) (sym x.5)
      (extent, ap (slice_get (extents_of 0 nodes)) n ∙ x.1, of_token unit tokens extent m.token token _ o e f b counted)

  last_stands : (misfit : Option Misfit) (end : End) (begun : ℕ) (cause : Option Cause) → Spells unit tokens end → IsCauseOf (kinds_of tokens) (is_done end) begun cause
      → HaveTokens (length tokens) (extents_of 0 nodes) → IfSome misfit (IsPlaced (extents_of 0 nodes)) → IfSome misfit (λ m. before ≡ m.number - 1)
      → IfSome (fault_after unit tokens end begun cause misfit) (StandsLast unit tokens end nodes begun before)
  last_stands None end begun cause s c have x n = last_read end begun cause s c
  last_stands (Some m) end begun cause s c have x n = misfit_stands m end begun have x n

few : {A : Type 0} (n : ℕ) (xs : List A) → length (take n xs) ≤ length xs
few zero xs = omega arith
few (suc n) [] = omega arith
few (suc n) (x ∷ xs) = let f = few n xs in omega (arith, f)

few_at_most : {A : Type 0} (most : Option ℕ) (xs : List A) → length (up_to most xs) ≤ length xs
few_at_most None xs = omega arith
few_at_most (Some most) xs = few most xs

few_before_none : {A : Type 0} (xs : List (Option A)) → length (before_none xs) ≤ length xs
few_before_none [] = omega arith
few_before_none (None ∷ xs) = omega arith
few_before_none (Some x ∷ xs) = let f = few_before_none xs in omega (arith, f)

of_all : {A : Type 0} (p : A → Bool) (x : A) (xs : List A) → list_all p (x ∷ xs) ≡ true → (p x ≡ true) × (list_all p xs ≡ true)
of_all p x xs h = and_parts _ _ h

all_before_none : {A : Type 0} (xs : List (Option A)) → list_all is_some xs ≡ true → length (before_none xs) ≡ length xs
all_before_none [] h = refl
all_before_none (None ∷ xs) h = absurd (false≢true (of_all is_some None xs h).0)
all_before_none (Some x ∷ xs) h = ap suc (all_before_none xs (of_all is_some (Some x) xs h).1)

-- so many declarations stand before the one with a fault of its phrases, where none is too high
before_it : {A : Type 0} (misfit : Option Misfit) (extents : List Extent) (tops : List (Option A)) → length tops ≡ length extents → IfSome misfit (IsPlaced extents) → list_all is_some (up_to (before_misfit misfit) tops) ≡ true
    → IfSome misfit (λ m. length (before_none (up_to (before_misfit misfit) tops)) ≡ m.number - 1)
before_it None extents tops n x h = tt
before_it (Some m) extents tops n x h =
    let b = slice_get_within extents (m.number - 1) x.0 x.1 in
    all_before_none (take (m.number - 1) tops) h ∙ length-take-le (m.number - 1) tops (omega (arith, b, n))

-- there are as many extents as declarations
module _ (unit : List ℕ) (tokens : List Token) where
  as_many_bare : (n : ℕ) (nodes : List Node) (fitted : List Fitted) → length (bare_decs unit tokens n nodes fitted) ≡ length (extents_of n nodes)
  as_many_bare n [] fitted = refl
  as_many_bare n (Leaf ∷ nodes) fitted = as_many_bare (suc n) nodes fitted
  as_many_bare n (Inner rule ∷ nodes) fitted =
      let dec = bare_dec_at unit tokens n (before_first ends_at nodes) fitted in
      let extent : Extent = record { first = n; after = n + tokens_before nodes } in
      subst (λ (b : Bool). length (if b then dec ∷ bare_decs unit tokens n nodes (drop 1 fitted) else bare_decs unit tokens n nodes fitted) ≡ length (if begins_next rule then extent ∷ extents_of n nodes else extents_of n nodes)) (sym (begins_same rule))
      (by_begin dec extent (begins_next rule) (as_many_bare n nodes (drop 1 fitted)) (as_many_bare n nodes fitted))
    where
      by_begin : (dec : Option (TopDec Place)) (extent : Extent) (b : Bool) → length (bare_decs unit tokens n nodes (drop 1 fitted)) ≡ length (extents_of n nodes) → length (bare_decs unit tokens n nodes fitted) ≡ length (extents_of n nodes)
          → length (if b then dec ∷ bare_decs unit tokens n nodes (drop 1 fitted) else bare_decs unit tokens n nodes fitted) ≡ length (if b then extent ∷ extents_of n nodes else extents_of n nodes)
      by_begin dec extent true h k = ap suc h
      by_begin dec extent false h k = k

first_placed : (extents : List Extent) (first other : Option Misfit) → IfSome first (IsPlaced extents) → IfSome other (IsPlaced extents) → IfSome (or_else first other) (IsPlaced extents)
first_placed extents None other h k = k
first_placed extents (Some m) other h k = h

pub places_within : PlacesAreWithin
places_within unit tokens end tops decs fault s trees =
    let o = tokens_are_in_order unit tokens end s in
    let extents = extents_of 0 trees.nodes in
    let bare = bare_decs unit tokens 0 trees.nodes trees.fitted in
    let whole = trees.reading.whole in
    let kinds = take trees.begun (kinds_of tokens) in
    let n = length-map tokens (λ (t : Token). t.kind) in
    let f = few trees.begun (kinds_of tokens) in
    let have = have_tokens trees.nodes _ 0 (length tokens) kinds _ whole.part whole.outer (omega (arith, n, f)) whole.leads in
    let stand = tops_stand unit tokens o trees.nodes _ 0 kinds _ whole.part trees.fitted whole.outer (omega (arith, n, f)) whole.leads in
    let many_bare = as_many_bare unit tokens 0 trees.nodes trees.fitted in
    let flawed = flawed_placed (text_at unit tokens) extents (length tokens) trees.nodes 0 0 tokens trees.fitted have (λ i. ap (slice_get extents) (let e : 0 + i ≡ i = omega arith in e)) in
    let unfit = misfit_placed unit tokens trees.nodes kinds _ whole.part trees.fitted trees.unfit whole.outer whole.leads trees.fits in
    let placed = subst (λ m. IfSome m (IsPlaced extents)) (sym trees.is_first) (first_placed extents _ _ flawed unfit) in
    let counted = ap length trees.piece ∙ length-map tops piece_of ∙ ap length trees.made in
    let stand_tops = subst (TopsStandInTurn unit tokens extents) (sym trees.made) (made_in_turn unit tokens extents _ (most_in_turn unit tokens (before_misfit trees.misfit) extents bare stand)) in (
      stand_tops,
      subst (StandInTurn unit tokens extents) (sym trees.piece) (pieces_in_turn unit tokens extents tops stand_tops),
      subst (λ f. IfSome f (StandsLast unit tokens end trees.nodes trees.begun (length decs))) (sym trees.ended)
          (by_test o have placed (λ h. subst (λ (k : ℕ). IfSome trees.misfit (λ m. k ≡ m.number - 1)) (sym counted) (before_it trees.misfit extents bare many_bare placed h)) (list_all is_some until_misfit) refl),
    )
  where
    until_misfit : List (Option (TopDec Place))
    until_misfit = up_to (before_misfit trees.misfit) (bare_decs unit tokens 0 trees.nodes trees.fitted)

    by_test : AreInOrder unit 0 tokens → HaveTokens (length tokens) (extents_of 0 trees.nodes) → IfSome trees.misfit (IsPlaced (extents_of 0 trees.nodes))
        → (list_all is_some until_misfit ≡ true → IfSome trees.misfit (λ m. length decs ≡ m.number - 1)) → (b : Bool) → list_all is_some until_misfit ≡ b
        → IfSome (if b then fault_after unit tokens end trees.begun trees.cause trees.misfit else Some (record { code = C.S3; place = first_place; detail = None })) (StandsLast unit tokens end trees.nodes trees.begun (length decs))
    by_test o have placed n true q =
        last_stands unit tokens o trees.nodes (length decs) trees.misfit end trees.begun trees.cause s trees.reading.fault have placed (n q)
    by_test o have placed n false q = refl
