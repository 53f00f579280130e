-- Rows in patterns: plain ones, and those that may have other fields too.
use Rattle.std.proofs.Common.{◌≡◌, ◌++◌, ℕ, Bool, true, false, Some, None, Result, Ok, Err, List, [], ◌∷◌, Vec, map, subst, sym, refl, ap, ◌∙◌, arith}
use Rattle.std.specs.Global.{Global}
use Rattle.std.specs.declared.rc.Rc.{Rc}
use Rattle.std.proofs.lemmas.List.{append_assoc, map-append}
use Rattle.sml_tree.specs.Trees.{Id}
use Rattle.sml_tree.specs.Views.{ident_of}
use Rattle.sml_objects.proofs.EnvViews.{map-map}
use Rattle.sml_types.specs.Rows.{LabelKey}
use Rattle.sml_lex.specs.Faults.{fault_of}
use Rattle.sml_lex.specs.declared.fault.Code.{Code}
use Rattle.sml_lex.specs.declared.fault.Place.{Place}
use Rattle.sml_objects.specs.Initial.{Name}
use Rattle.sml_objects.specs.Objects.{MlType}
use Rattle.sml_objects.specs.Views.{type_of}
use Rattle.sml_objects.specs.declared.objects.MlType as P
use Rattle.sml_layers.specs.Demands as D
use Rattle.sml_layers.specs.Demands.{Mentions}
use Rattle.sml_graph.specs.Asked as A
use Rattle.sml_graph.specs.Asked.{Asked}
use Rattle.sml_graph.specs.Interned.{IsOver, demanded as demanded_fields}
use Rattle.sml_graph.specs.Refusals.{refusal_code}
use Rattle.sml_graph.specs.declared.demand.Refusal.{Refusal}
use Rattle.sml_core_rules.specs.Scripts.{IsAnswer, give, new_row, new_unknown, require, ◌>>=◌}
use Rattle.sml_core_rules.specs.States.{State, Window, with_window}
use Rattle.sml_core_rules.specs.Types.{row_of}
use Rattle.sml_types.specs.Answered.{IsFault}
use Rattle.sml_types.specs.declared.fault.CoreFault.{CoreFault}
use Rattle.sml_types.specs.declared.fault.CoreFault.TheVariants as F
use Rattle.sml_asks.specs.Solvers.{IsTypeIn}
use Rattle.sml_asks.specs.Steps.{Answers, Asks}
use Rattle.sml_asks.proofs.Stepping.{row-answer}
use Rattle.sml_core.specs.declared.context.Context.{Context}
use Rattle.sml_core.specs.Answered.{IsAt, MakesUnknown, Reaches, Row, unit_of}
use Rattle.sml_core.specs.Patterns.{MakesRow}
use Rattle.sml_core.proofs.Sequences.{type-later, then-reaches, then-refused, first-refused}
use Rattle.sml_core.proofs.Steps.{asked_with, demanded, refused-so}
use Rattle.sml_core.proofs.Applying.{given-reaches}
use Rattle.sml_core.proofs.Rows.{fields-later, row-mentions, row-over, row_types}

-- the labels and the types that are demanded
pub demanded-are : (xs : List (Rc (Vec ℕ Global) Global × Rc P.MlType Global)) (ys es : List (LabelKey × Rc P.MlType Global)) → xs ≡ map (λ e. (e.0.1, e.1)) ys → map (λ e. e) ys ≡ es → demanded_fields xs ≡ row_types es
demanded-are xs ys es is all =
    let see : Rc (Vec ℕ Global) Global × Rc P.MlType Global → Id × MlType Name = λ e. (ident_of e.0, type_of e.1.value) in
    let seen : LabelKey × Rc P.MlType Global → Id × MlType Name = λ e. (ident_of e.0.1, type_of e.1.value) in
    ap demanded_fields is ∙ (map-map see (λ e. (e.0.1, e.1)) ys ∙ (sym (map-map seen (λ e. e) ys) ∙ ap row_types all))

-- where the call was not refused
pub not-refused : (result : Result (Unit {0}) Refusal) → ((r : Refusal) → result ≡ Err r → ⊥) → result ≡ Ok tt
not-refused (Ok x) none = refl
not-refused (Err r) none = absurd (none r refl)

pub row-memory : (old new : Context) (p : Place) (flexible : Bool) (fs : Row) → MakesRow old p flexible fs new (Err F.Memory)
unfolding MakesRow
row-memory old new p flexible fs = λ r C vs around s is known. tt

-- of these fields and no others
pub plain-row : (old : Context) (p : Place) (fs : Row) (t : Rc P.MlType Global) → type_of t.value ≡ row_of fs → MakesRow old p false fs old (Ok t)
unfolding MakesRow IsOver Mentions
plain-row old p fs t e = λ r C vs around s is known. (
  s,
  subst (λ u. Reaches around old (give (row_of fs)) s old u s) (sym e) (given-reaches around old s is (row_of fs)),
  subst (IsTypeIn s.made s.names) (sym e) (row-over s.made s.names fs known, (tt, row-mentions s fs known)),
)

-- the row is among those of the declaration
row-added : (around : Window Place Name) (old new : Context) (p : Place) (t : MlType Name) (row : Rc P.MlType Global) (rows : Vec (Place × Rc P.MlType Global) Global) → type_of row.value ≡ t
    → rows.items ≡ old.rows.items ++ (p, row) ∷ [] → new ≡ record old { rows = rows } → (s : State Place Name) → IsAt around old s
    → Reaches around old (new_row p t) s new tt (with_window (record { rows = s.window.rows ++ (p, t) ∷ []; overloaded = s.window.overloaded }) s)
unfolding IsAnswer
row-added around old new p t row rows typed pushed same s is =
    let see : Place × Rc P.MlType Global → Place × MlType Name = λ r. (r.0, type_of r.1.value) in
    let w : Window Place Name = record { rows = s.window.rows ++ (p, t) ∷ []; overloaded = s.window.overloaded } in
    let more : map see rows.items ≡ map see old.rows.items ++ (p, t) ∷ [] =
    ap (map see) pushed ∙ (map-append see old.rows.items ((p, row) ∷ []) ∙ ap (λ u. map see old.rows.items ++ (p, u) ∷ []) typed) in
    subst (λ n. Reaches around old (new_row p t) s n tt (with_window w s)) (sym same) (record {
      answer = refl;
      at = record {
        solver = is.solver;
        rows = more ∙ (ap (λ rs. rs ++ (p, t) ∷ []) is.rows ∙ append_assoc around.rows s.window.rows ((p, t) ∷ []));
        overloaded = is.overloaded;
        quiet = is.quiet;
      };
      unit = refl;
      seen = record { means = λ C h. h; around = λ C m h. h; scoped = λ vs h. h };
      later = record { made = omega arith; names = λ n h. h };
    })

pub row-not-made : (old new : Context) (p : Place) (fs : Row) (f : CoreFault) → MakesUnknown old new (Err f) → MakesRow old p true fs new (Err f)
unfolding MakesRow MakesUnknown
row-not-made old new p fs F.Memory makes = λ r C vs around s is known. tt
row-not-made old new p fs (F.Fault f) makes = λ r C vs around s is known.
    first-refused old new_unknown (λ t. require (D.has_fields t fs) p >>= λ u. new_row p t >>= λ w. give t) s (fault_of f) (makes around s is)

-- of these fields and perhaps others
module _ (old mid : Context) (p : Place) (fs : Row) (row : Rc P.MlType Global) (makes : MakesUnknown old mid (Ok row)) (solver : Asked) (result : Result (Unit {0}) Refusal)
    (asks : Asks mid.solver (A.has_fields (type_of row.value) fs) solver result) where
  pub row-refused : (new : Context) (refusal : Refusal) (fault : CoreFault) → result ≡ Err refusal
      → ((c : Code) → refusal_code refusal ≡ Some c → IsFault fault (record { code = c; place = p; detail = None })) → (refusal_code refusal ≡ None → fault ≡ F.Memory)
      → MakesRow old p true fs new (Err fault)
  unfolding MakesRow MakesUnknown
  row-refused new refusal F.Memory e faulty memory = λ r C vs around s is known. tt
  row-refused new refusal (F.Fault f) e faulty memory = λ r C vs around s is known.
      let t = type_of row.value in
      let (u, made, in_u) = makes around s is in
      then-refused around old mid new_unknown (λ t. require (D.has_fields t fs) p >>= λ u. new_row p t >>= λ w. give t) s u t made (fault_of f)
      (first-refused mid (require (D.has_fields t fs) p) (λ u. new_row p t >>= λ w. give t) u (fault_of f)
      (refused-so around mid u made.at (D.has_fields t fs) p solver refusal (F.Fault f) new faulty memory
      (subst (Answers (unit_of mid) mid.new.next u (D.has_fields t fs) solver) e
      (row-answer (unit_of mid) mid.new.next mid.solver solver u made.at.solver result t fs asks in_u (fields-later s u made.later fs known)))))

  pub row-made : (new : Context) (rows : Vec (Place × Rc P.MlType Global) Global) (copy : Rc P.MlType Global) → result ≡ Ok tt → copy.value ≡ row.value → rows.items ≡ mid.rows.items ++ (p, copy) ∷ []
      → new ≡ record mid { solver = solver; rows = rows } → MakesRow old p true fs new (Ok row)
  unfolding MakesRow MakesUnknown
  row-made new rows copy e copied pushed same = λ r C vs around s is known.
      let t = type_of row.value in
      let (u, made, in_u) = makes around s is in
      let (v, asked, _) = demanded around mid u made.at (D.has_fields t fs) p solver mid.recorder made.at.quiet
      (subst (Answers (unit_of mid) mid.new.next u (D.has_fields t fs) solver) e
      (row-answer (unit_of mid) mid.new.next mid.solver solver u made.at.solver result t fs asks in_u (fields-later s u made.later fs known))) in
      let last = asked_with mid solver mid.recorder in
      let w = with_window (record { rows = v.window.rows ++ (p, t) ∷ []; overloaded = v.window.overloaded }) v in
      let added = row-added around last new p t copy rows (ap type_of copied) pushed same v asked.at in (
        w,
        then-reaches around old mid new_unknown (λ t. require (D.has_fields t fs) p >>= λ u. new_row p t >>= λ w. give t) s u t made new t w
            (then-reaches around mid last (require (D.has_fields t fs) p) (λ u. new_row p t >>= λ w. give t) u v tt asked new t w
            (then-reaches around last new (new_row p t) (λ w. give t) v w tt added new t w (given-reaches around new w added.at t))),
        type-later u v asked.later t in_u,
      )
