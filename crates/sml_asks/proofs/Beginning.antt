-- How a run and its solvers begin.
use Rattle.std.proofs.Common.{◌≡◌, Bool, true, false, [], inl, inr, sym, ◌∙◌, ap, subst, refl}
use Rattle.sml_objects.specs.Appearance.{Stands}
use Rattle.sml_objects.specs.Initial as N
use Rattle.sml_objects.specs.Initial.{Name, initial, initial_basis}
use Rattle.sml_objects.specs.Names.{Initial, int, word, char, string, bool, exn, real, list, ref}
use Rattle.sml_layers.specs.declared.layer.Layer.TheVariants.{Rigidity}
use Rattle.sml_layers.specs.declared.variable.Variable.{Variable}
use Rattle.sml_layers.specs.Demands.{CanBeMet}
use Rattle.sml_layers.specs.Explicit.{variable_name}
use Rattle.sml_graph.specs.Asked.{IsMet}
use Rattle.sml_graph.specs.Bounds.{IsNameWithin}
use Rattle.sml_graph.specs.Said.{by_list}
use Rattle.sml_graph.proofs.Saying.{says-its-demands}
use Rattle.sml_asks.specs.Solvers.{AreDemands}
use Rattle.sml_asks.specs.Steps.{RunsBegin, SolversStartAnew}

pub solvers-start-anew : SolversStartAnew
unfolding IsMet
solvers-start-anew unit next solver s c u p n m k e q = record {
  counted = c;
  maker = u;
  spent = p;
  unknowns = n ∙ sym e;
  known = k;
  demands = [];
  says = says-its-demands.at_first solver n m;
  same = subst (AreDemands unit next s.made s.names []) (sym q) tt;
  met = subst (CanBeMet by_list Rigidity) (sym q) ((m Rigidity).0, tt);
}

pub runs-begin : RunsBegin
unfolding initial_basis Stands
runs-begin unit c = record { initials = initials; within = within; apart = apart }
  where
    initials : (k : Initial) → Stands (initial k) initial_basis.names
    initials int = inl refl
    initials word = inr (inl refl)
    initials char = inr (inr (inl refl))
    initials string = inr (inr (inr (inl refl)))
    initials bool = inr (inr (inr (inr (inl refl))))
    initials exn = inr (inr (inr (inr (inr (inl refl)))))
    initials real = inr (inr (inr (inr (inr (inr (inl refl))))))
    initials list = inr (inr (inr (inr (inr (inr (inr (inl refl)))))))
    initials ref = inr (inr (inr (inr (inr (inr (inr (inr (inl refl))))))))

    is_made : Name → Bool
    is_made (initial k) = false
    is_made (N.made u k a q) = true

    is-initial : (n : Name) → Stands n initial_basis.names → is_made n ≡ false
    is-initial n (inl e) = ap is_made e
    is-initial n (inr (inl e)) = ap is_made e
    is-initial n (inr (inr (inl e))) = ap is_made e
    is-initial n (inr (inr (inr (inl e)))) = ap is_made e
    is-initial n (inr (inr (inr (inr (inl e))))) = ap is_made e
    is-initial n (inr (inr (inr (inr (inr (inl e)))))) = ap is_made e
    is-initial n (inr (inr (inr (inr (inr (inr (inl e))))))) = ap is_made e
    is-initial n (inr (inr (inr (inr (inr (inr (inr (inl e)))))))) = ap is_made e
    is-initial n (inr (inr (inr (inr (inr (inr (inr (inr (inl e))))))))) = ap is_made e
    is-initial n (inr (inr (inr (inr (inr (inr (inr (inr (inr e))))))))) = absurd e

    within : (n : Name) → Stands n initial_basis.names → IsNameWithin unit 0 n
    within (initial k) h = tt
    within (N.made u k a q) h = absurd (let e : true ≡ false = is-initial (N.made u k a q) h in cc)

    apart : (x : Variable) → Stands (variable_name x) initial_basis.names → ⊥
    apart x h = let e : true ≡ false = is-initial (variable_name x) h in cc
