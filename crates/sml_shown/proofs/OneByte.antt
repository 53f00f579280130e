-- A place of a declaration, moved to where the declaration begins, names the byte that it names in the declaration.
use Rattle.std.proofs.Common.{◌≡◌, ℕ, zero, suc, ◌+◌, ◌-◌, ◌<◌, ◌≤◌, List, [], ◌∷◌, ◌++◌, Option, Some, None, length, map, take, drop, refl, sym, ap, ◌∙◌, subst, arith}
use Rattle.std.specs.Prelude.{slice_get, slice_range, unwrap_or}
use Rattle.std.specs.Option.{option_map}
use Rattle.std.proofs.lemmas.List.{length-take-le}
use Rattle.std.proofs.Math.Seq.{take-add}
use Rattle.sml_lex.specs.declared.fault.Place.{Place}
use Rattle.sml_lex.specs.declared.token.Token.{Token}
use Rattle.sml_lex.specs.declared.token.Stop.{Stop}
use Rattle.sml_lex.specs.declared.token.End.{End}
use Rattle.sml_lex.specs.declared.token.End.TheVariants as E
use Rattle.sml_lex.specs.Faults.{Fault}
use Rattle.sml_lex.specs.Pieces.{Spells}
use Rattle.sml_lex.proofs.Unique.{spelling_is_unique}
use Rattle.sml_tree.specs.Trees.{Dec}
use Rattle.sml_tree.specs.Structures.{TopDec}
use Rattle.sml_read.specs.Spelling.{kinds_of}
use Rattle.sml_read.specs.Answer.{is_done, IsReading}
use Rattle.sml_read.proofs.OneReading.{reading_one}
use Rattle.sml_reach.specs.Places.{place_after, place_from, start_of}
use Rattle.sml_reach.proofs.Somes.{some_same, none_some}
use Rattle.sml_parse.specs.Trees.{AreTrees}
use Rattle.sml_parse.specs.Within.{Extent, extents_of, IsOfToken, IsOfStop}
use Rattle.sml_shown.specs.declared.spots.Spot.{Spot}
use Rattle.sml_shown.specs.declared.unit_map.UnitMap.{UnitMap}
use Rattle.sml_shown.specs.Spots.{line_in_file, column_in_file, spot_from}
use Rattle.sml_shown.specs.Maps.{end_of, starts_in, IsMap, NamesOneByte}
use Rattle.sml_shown.proofs.Moves.{moves}

-- the spot is what is made of the place where the declaration begins there
abbrev pub IsMoved : Place → Place → Spot → Type 0
IsMoved start place spot = (spot.line ≡ line_in_file start.line place.line) × (spot.column ≡ column_in_file start.column place.line place.column)

on : (unit : List ℕ) (first at : ℕ) → first ≤ at → slice_range unit 0 at ≡ slice_range unit 0 first ++ slice_range unit first at
on unit first at h =
    ap (λ n. take n unit) (let e : at - 0 ≡ first + (at - first) = omega (arith, h) in e)
    ∙ take-add first (at - first) unit
    ∙ ap (λ n. take n unit ++ take (at - first) (drop first unit)) (let e : first ≡ first - 0 = omega arith in e)

moved_from : (unit : List ℕ) (first at : ℕ) (start place : Place) (spot : Spot) → length unit < 4294967295 → first ≤ at → at ≤ length unit
    → start ≡ place_from unit 0 first → place ≡ place_from unit first at → IsMoved start place spot → spot ≡ spot_from unit at
moved_from unit first at start place spot short h w s p q =
    let way = on unit first at h in
    let size : length (slice_range unit 0 first ++ slice_range unit first at) < 4294967295 = subst (λ bytes. length bytes < 4294967295) way (let l = length-take-le (at - 0) unit (omega (arith, w)) in omega (arith, l, short, w)) in
    let m = moves (slice_range unit 0 first) (slice_range unit first at) size in
    let line = q.0 ∙ (λ i. line_in_file (s i).line (p i).line) ∙ m.0 ∙ ap (λ bytes. (place_after bytes).line) (sym way) in
    let column = q.1 ∙ (λ i. column_in_file (s i).column (p i).line (p i).column) ∙ m.1 ∙ ap (λ bytes. (place_after bytes).column) (sym way) in
    λ i. record { line = line i; column = column i }

-- what stands at an index

mapped : {A B : Type 0} (f : A → B) (xs : List A) (k : ℕ) (x : A) → slice_get xs k ≡ Some x → slice_get (map f xs) k ≡ Some (f x)
mapped f [] k x e = absurd (none_some e)
mapped f (y ∷ ys) zero x e = ap (λ a. Some (f a)) (some_same e)
mapped f (y ∷ ys) (suc k) x e = mapped f ys k x e

past : {A B : Type 0} (f : A → B) (xs : List A) (k : ℕ) → length xs ≤ k → slice_get (map f xs) k ≡ None
past f [] k h = refl
past f (y ∷ ys) zero h = absurd (omega (arith, h))
past f (y ∷ ys) (suc k) h = past f ys k (omega (arith, h))

start_same : (tokens : List Token) (index other another : ℕ) → index < length tokens → start_of tokens index other ≡ start_of tokens index another
start_same [] index other another h = absurd (omega (arith, h))
start_same (t ∷ ts) zero other another h = refl
start_same (t ∷ ts) (suc index) other another h = start_same ts index other another (omega (arith, h))

-- a unit's bytes spell one list of tokens, of which there is one derivation
module _ (unit : List ℕ) (m : UnitMap) (k : IsMap unit m) (tokens : List Token) (end : End) (tops : List (TopDec Place)) (decs : List (Dec Place)) (fault : Option (Fault Place)) (s : Spells unit tokens end) (trees : AreTrees unit tokens end tops decs fault) where
  same : (m.starts.items ≡ starts_in unit tokens (extents_of 0 trees.nodes)) × (m.left ≡ place_from unit 0 (start_of tokens trees.begun (end_of unit end)))
  same =
      let one = spelling_is_unique unit m.lexed.tokens.items tokens m.lexed.«end» end k.spells s in
      let reading = subst (λ e. IsReading (kinds_of tokens) (is_done e) k.nodes k.begun k.cause) one.1 (subst (λ ts. IsReading (kinds_of ts) (is_done m.lexed.«end») k.nodes k.begun k.cause) one.0 k.reading) in
      let read = reading_one (kinds_of tokens) (is_done end) k.nodes trees.nodes k.begun trees.begun k.cause trees.cause reading trees.reading in (
        k.starts ∙ (λ i. starts_in unit (one.0 i) (extents_of 0 (read.0 i))),
        k.left ∙ (λ i. place_from unit 0 (start_of (one.0 i) (read.1 i) (end_of unit (one.1 i)))),
      )

  starts_at : (number : ℕ) (extent : Extent) → slice_get (extents_of 0 trees.nodes) (number - 1) ≡ Some extent → unwrap_or (slice_get m.starts.items (number - 1)) m.left ≡ place_from unit 0 (start_of tokens extent.first 0)
  starts_at number extent e =
      ap (λ o. unwrap_or o m.left) (ap (λ xs. slice_get xs (number - 1)) same.0 ∙ mapped (λ (e : Extent). place_from unit 0 (start_of tokens e.first 0)) (extents_of 0 trees.nodes) (number - 1) extent e)

  starts_last : (number : ℕ) → length (extents_of 0 trees.nodes) ≤ number - 1 → unwrap_or (slice_get m.starts.items (number - 1)) m.left ≡ place_from unit 0 (start_of tokens trees.begun (end_of unit end))
  starts_last number h =
      ap (λ o. unwrap_or o m.left) (ap (λ xs. slice_get xs (number - 1)) same.0 ∙ past (λ (e : Extent). place_from unit 0 (start_of tokens e.first 0)) (extents_of 0 trees.nodes) (number - 1) h) ∙ same.1

pub names_one_byte : (unit : List ℕ) (m : UnitMap) (number : ℕ) (start place : Place) (spot : Spot) → length unit < 4294967295 → IsMap unit m
    → start ≡ unwrap_or (slice_get m.starts.items (number - 1)) m.left → IsMoved start place spot → NamesOneByte unit number place spot
names_one_byte unit m number start place spot short k is q = record {
  in_declaration = λ tokens end tops decs fault s trees extent e t.
      moved_from unit (start_of tokens extent.first 0) t.token.span.start start place spot short t.ahead (let w = t.within in omega (arith, w)) (is ∙ starts_at unit m k tokens end tops decs fault s trees number extent e) t.counted q;
  in_rest = λ tokens end tops decs fault s trees h t.
      let b = t.after_first in
      let c = t.before_end in
      let first = start_same tokens trees.begun (end_of unit end) 0 (omega (arith, b, c)) in
      moved_from unit (start_of tokens trees.begun 0) t.token.span.start start place spot short t.ahead (let w = t.within in omega (arith, w))
      (is ∙ starts_last unit m k tokens end tops decs fault s trees number h ∙ ap (place_from unit 0) first) t.counted q;
  at_end = λ tokens end tops decs fault s trees h t.
      let stop : end_of unit end ≡ t.stop.at = ap (end_of unit) t.ended in
      moved_from unit (start_of tokens trees.begun t.stop.at) t.stop.at start place spot short t.ahead t.within
      (is ∙ starts_last unit m k tokens end tops decs fault s trees number h ∙ ap (λ n. place_from unit 0 (start_of tokens trees.begun n)) stop) t.counted q;
}
