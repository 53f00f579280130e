-- The faults of a run stand in the declarations that they are of.
use Rattle.std.specs.Prelude.{ℕ, Bool, true, false, cond, List, [], ◌∷◌, ◌++◌}
use Rattle.std.specs.List.{All, list_all}
use Rattle.std.proofs.lemmas.List.Elements.{All-contains}
use Rattle.sml_lex.specs.declared.fault.Place.{Place}
use Rattle.sml_lex.specs.declared.token.Token.{Token}
use Rattle.sml_lex.specs.Faults.{first_place}
use Rattle.sml_tree.specs.Trees.{Dec}
use Rattle.sml_tree.specs.Places.{dec_places}
use Rattle.sml_parse.specs.Within.{Extent, IsOfToken, StandInTurn}
use Rattle.sml_parse.proofs.PlacesWithin.{places_within}
use Rattle.sml_objects.specs.Objects.{Sig, Basis}
use Rattle.sml_objects.specs.Initial.{Name, naming}
use Rattle.sml_rules.specs.Answers.{refused, accepted}
use Rattle.sml_rules.specs.Readings.{read_top, is_specified}
use Rattle.sml_rules.proofs.Faults.{stands_in_declaration}
use Rattle.sml_projects.specs.Orders.{UnitText}
use Rattle.sml_units.specs.Runs.{SourceUnit, Run, RunProject, basis_after, exports, nothing, start, specified_beginning, flag_at, is_whole, specified_unit, specified_from}
use Rattle.sml_units.specs.Checked.{Answered, AreSpelt, AreSourcesOf}
use Rattle.sml_units.specs.Standing.{AnswerStands, AnswersStand, UnitStands, UnitsStand}

answer_stands : (maker : ℕ) (B : Basis Name) (bytes : List ℕ) (tokens : List Token) (extent : Extent) (d : Dec Place) (o : Answered)
    → All (IsOfToken bytes tokens extent) (first_place ∷ dec_places d) → read_top naming first_place maker B d o → AnswerStands bytes tokens extent o
answer_stands maker B bytes tokens extent d (accepted S) h r = tt
answer_stands maker B bytes tokens extent d (refused f) h r =
    All-contains (IsOfToken bytes tokens extent) (first_place ∷ dec_places d) f.place h (stands_in_declaration naming first_place maker B d f r)

answers_stand : (maker : ℕ) (B : Basis Name) (bytes : List ℕ) (tokens : List Token) (extents : List Extent) (ds : List (Dec Place)) (os : List Answered)
    → StandInTurn bytes tokens extents ds → Run naming maker B ds os → AnswersStand bytes tokens extents os
unfolding Run
answers_stand maker B bytes tokens extents ds [] h r = tt
answers_stand maker B bytes tokens extents [] (o ∷ os) h r = absurd r
answers_stand maker B bytes tokens [] (d ∷ ds) (o ∷ os) h r = absurd h
answers_stand maker B bytes tokens (extent ∷ extents) (d ∷ ds) (o ∷ os) h r =
    (answer_stands maker B bytes tokens extent d o h.0 r.0, answers_stand maker (basis_after B o) bytes tokens extents ds os h.1 r.1)

-- what is specified of a unit stands as the whole does
by_test : (b : Bool) (bytes : List ℕ) (tokens : List Token) (extents : List Extent) (d : Dec Place) (ds : List (Dec Place)) {extent : Extent} → All (IsOfToken bytes tokens extent) (first_place ∷ dec_places d)
    → StandInTurn bytes tokens extents ds → StandInTurn bytes tokens (extent ∷ extents) (cond b (d ∷ ds) [])
by_test true bytes tokens extents d ds h k = (h, k)
by_test false bytes tokens extents d ds h k = tt

begun_stand : (bytes : List ℕ) (tokens : List Token) (extents : List Extent) (ds : List (Dec Place)) → StandInTurn bytes tokens extents ds → StandInTurn bytes tokens extents (specified_beginning ds)
begun_stand bytes tokens extents [] h = tt
begun_stand bytes tokens [] (d ∷ ds) h = absurd h
begun_stand bytes tokens (extent ∷ extents) (d ∷ ds) h = by_test (is_specified d) bytes tokens extents d (specified_beginning ds) h.0 (begun_stand bytes tokens extents ds h.1)

part_stands : (b : Bool) (bytes : List ℕ) (tokens : List Token) (extents : List Extent) (ds : List (Dec Place)) → StandInTurn bytes tokens extents ds → StandInTurn bytes tokens extents (cond b (specified_beginning ds) [])
part_stands true bytes tokens extents ds h = begun_stand bytes tokens extents ds h
part_stands false bytes tokens extents ds h = tt

unit_stands : (flags : List Bool) (B : Basis Name) (bytes : List ℕ) (s : SourceUnit) (spelt : AreSpelt bytes s.declarations s.last) (os : List Answered)
    → Run naming s.maker B (specified_unit flags s).declarations os → UnitStands bytes s spelt os
unit_stands flags B bytes s spelt os r =
    let p = places_within bytes spelt.tokens spelt.end spelt.tops s.declarations s.last spelt.tokens_spelt spelt.trees in
    record {
      answers = answers_stand s.maker B bytes spelt.tokens _ (specified_unit flags s).declarations os (part_stands (list_all (flag_at flags) s.needs) bytes spelt.tokens _ s.declarations p.1) r;
      last = p.2;
    }

pub units_stand : (flags : List Bool) (B : Basis Name) (Ss : List (Sig Name)) (us : List UnitText) (ss : List SourceUnit) (spelt : AreSourcesOf us ss) (oss : List (List Answered))
    → RunProject naming B Ss (specified_from flags ss) oss → UnitsStand us ss spelt oss
unfolding RunProject
units_stand flags B Ss [] ss spelt oss r = tt
units_stand flags B Ss (u ∷ us) [] spelt oss r = tt
units_stand flags B Ss (u ∷ us) (s ∷ ss) spelt [] r = tt
units_stand flags B Ss (u ∷ us) (s ∷ ss) spelt (os ∷ oss) r =
    (unit_stands flags (start B Ss s.needs) u.text s spelt.0.spelt os r.0, units_stand (flags ++ is_whole flags s ∷ []) B (Ss ++ exports nothing os ∷ []) us ss spelt.1 oss r.1)
