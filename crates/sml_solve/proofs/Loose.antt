-- Types that speak of unknowns alone of which no node says what they are.
use Rattle.std.proofs.Common.{◌≡◌, ℕ, ◌<◌, Bool, true, false, List, [], length, Ok, refl, sym, subst, ◌∙◌}
use Rattle.std.proofs.lemmas.Bool.{true≢false}
use Rattle.std.specs.Bool.{OnTrue}
use Rattle.std.specs.List.{AllByRecursion}
use Rattle.sml_objects.specs.Initial.{Name}
use Rattle.sml_objects.specs.Objects as O
use Rattle.sml_objects.specs.Types.{variables_after}
use Rattle.sml_graph.specs.declared.node.Node.{Node}
use Rattle.sml_graph.specs.Graphs.{IsLoose}
use Rattle.sml_graph.specs.Interned.{IsOver, AreOver}
use Rattle.sml_schemes.specs.Left.{IsLeft, IsMadeOf, AreMadeOf}
use Rattle.sml_graph.specs.declared.demand.Halt.TheVariants as Halt
use Rattle.sml_graph.specs.declared.graph.Graph.{Graph}
use Rattle.sml_graph.specs.Asked.{Asked, asked_of}
use Rattle.sml_graph.specs.CodeWhole.{IsKept}
use Rattle.sml_demands.proofs.Demanding.{permits-refl}
use Rattle.sml_demands.proofs.Owning.{loose-left, made-more}
use Rattle.sml_solve.specs.Calls.{Keeps}
use Rattle.sml_solve.proofs.Renaming.{all-has, at-each}

mutual
  unfolding IsOver AreOver IsMadeOf AreMadeOf

  over-made : (n : ℕ) (t : O.MlType Name) → IsOver n t → IsMadeOf (λ v. v < n) t
  over-made n (O.bound k) o = o
  over-made n (O.free v) o = o
  over-made n (O.app h ts) o = all-over-made n ts o

  all-over-made : (n : ℕ) (ts : O.MlTypes Name) → AreOver n ts → AreMadeOf (λ v. v < n) ts
  all-over-made n O.no_type o = tt
  all-over-made n (O.and_type t ts) o = (over-made n t o.0, all-over-made n ts o.1)

-- A type is made of what its variables are.
loose-made : (ns : List Node) (us : List ℕ) (t : O.MlType Name) → IsOver (length us) t → AllByRecursion (IsLoose ns us) (variables_after [] t) → IsMadeOf (IsLoose ns us) t
loose-made ns us t o a = at-each (λ v. v < length us) (IsLoose ns us) t (over-made (length us) t o) (λ v h. all-has (IsLoose ns us) v (variables_after [] t) a h)

pub loose-if : (ns : List Node) (us : List ℕ) (t : O.MlType Name) (b : Bool) → IsOver (length us) t → (b ≡ true → AllByRecursion (IsLoose ns us) (variables_after [] t)) → OnTrue b (IsMadeOf (IsLoose ns us) t)
loose-if ns us t true o a = loose-made ns us t o (a refl)
loose-if ns us t false o a = tt

-- such unknowns are left
pub loose-left-all : (u : ℕ) (us : List ℕ) (g : Graph) (b : Bool) (t : O.MlType Name) → IsKept u g us → IsMadeOf (IsLoose g.nodes.items us) t → IsMadeOf (IsLeft (asked_of u us g b)) t
loose-left-all u us g b t k = made-more (IsLoose g.nodes.items us) (IsLeft (asked_of u us g b)) t (λ v l. loose-left u us g b v k.whole.sound k.whole.rank k.owners l)

-- a call that leaves a solver as it is
pub kept-same : {T : Type 0} (old new : Asked) (x : T) → old.spent ≡ false → new ≡ old → Keeps old new (Ok x) Halt.Spent
kept-same old new x unspent same = subst (λ z. Keeps old z (Ok x) Halt.Spent) (sym same)
    (record { same = permits-refl old; count = refl; returns = record { unit = refl; kept = unspent; err = tt; spent = (λ e. cc, λ e. absurd (true≢false (sym e ∙ unspent))) } })
