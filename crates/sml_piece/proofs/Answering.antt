-- Answers of readings, step by step.
use Rattle.std.proofs.Common.{◌≡◌, List, [], Option, Result, Ok, Err, refl, ap, sym, subst, inl, inr, OnOk}
use Rattle.sml_lex.specs.declared.fault.Place.{Place}
use Rattle.sml_lex.specs.declared.fault.Code.{Code}
use Rattle.sml_lex.specs.declared.fault.Code.TheVariants.{E3}
use Rattle.sml_lex.specs.Faults as F
use Rattle.sml_lex.specs.Faults.{fault_of}
use Rattle.sml_tree.specs.Trees.{Id, LongId}
use Rattle.sml_objects.specs.Objects.{Env, Scheme}
use Rattle.sml_objects.specs.Initial.{Name}
use Rattle.sml_rules.specs.Lookups.{Found, find_at, no_path}
use Rattle.sml_rules.specs.Answers.{Answer, Reading, refused, accepted, After, give, ◌>>=◌, test, need, fault_at}
use Rattle.sml_piece.specs.declared.top_fault.TopFault.{TopFault}
use Rattle.sml_piece.specs.declared.top_fault.TopFault.TheVariants.{Memory, Fault}
use Rattle.sml_piece.specs.Elaborated.{Answers, IsMade, IsFaultOf, LeadsTo}

pub leads_nowhere : {X : Type 0} (view : X → Env Name) (C : Env Name) (p : Place) (path s : List Id) (f : TopFault)
    → ((pick : Env Name → Option (Scheme Name)) → find_at pick [] path C ≡ no_path s) → IsFaultOf f (fault_at E3 p s) → LeadsTo view C p path (Err f)
leads_nowhere view C p path s Memory h k = tt
leads_nowhere view C p path s (Fault g) h k = (s, h, k)

-- a fault is refused
pub refused_by : {X Y : Type 0} (view : X → Y) (R : Reading Place Y) (f : TopFault) (g : F.Fault Place) → IsFaultOf f g → R (refused g) → Answers view (Err f) R
refused_by view R Memory g h r = tt
refused_by view R (Fault f) g h r = subst (λ x. R (refused x)) (sym h) r

-- one answer after another
pub then_ok : {X Y : Type 0} (m : Reading Place X) (next : X → Reading Place Y) (x : X) (y : Y) → m (accepted x) → next x (accepted y) → (m >>= next) (accepted y)
unfolding ◌>>=◌ After
then_ok m next x y h k = (accepted x, h, k)

pub then_any : {X Y : Type 0} (m : Reading Place X) (next : X → Reading Place Y) (x : X) (o : Answer Place Y) → m (accepted x) → next x o → (m >>= next) o
unfolding ◌>>=◌ After
then_any m next x o h k = (accepted x, h, k)

pub then_refused : {X Y : Type 0} (m : Reading Place X) (next : X → Reading Place Y) (f : F.Fault Place) → m (refused f) → (m >>= next) (refused f)
unfolding ◌>>=◌ After
then_refused m next f h = (refused f, h, refl)

-- the first of two ends in a fault
pub first_ends : {X Y Z W : Type 0} (view : X → Y) (see : Z → W) (m : Reading Place Y) (next : Y → Reading Place W) (f : TopFault)
    → Answers view (Err f) m → Answers see (Err f) (m >>= next)
first_ends view see m next Memory h = tt
first_ends view see m next (Fault f) h = then_refused m next (fault_of f) h

-- the second of two
pub second : {Y Z W : Type 0} (see : Z → W) (m : Reading Place Y) (next : Y → Reading Place W) (y : Y) (r : Result Z TopFault)
    → m (accepted y) → Answers see r (next y) → Answers see r (m >>= next)
second see m next y (Ok z) h k = then_any m next y (accepted (see z)) h k
second see m next y (Err Memory) h k = tt
second see m next y (Err (Fault f)) h k = then_any m next y (refused (fault_of f)) h k

pub gives : {X : Type 0} (x : X) → give {P = Place} x (accepted x)
unfolding give
gives x = refl

pub gives_so : {X : Type 0} (x y : X) → y ≡ x → give {P = Place} x (accepted y)
unfolding give
gives_so x y e = ap accepted e

pub passes : (C : Type 0) (f : F.Fault Place) → C → test C f (accepted tt)
unfolding test
passes C f h = inl (h, refl)

pub fails : (C : Type 0) (f : F.Fault Place) → ¬ C → test C f (refused f)
unfolding test
fails C f h = inr (h, refl)

-- answers of equal readings
pub answers_same : {X Y : Type 0} (view : X → Y) (r : Result X TopFault) (R S : Reading Place Y) → R ≡ S → Answers view r R → Answers view r S
answers_same view r R S e h = subst (Answers view r) e h

-- a path that leads nowhere is refused
pub leads_refused : {X Y : Type 0} (view : X → Env Name) (see : Y → Scheme Name) (c : Code) (p : Place) (x : LongId) (C : Env Name) (pick : Env Name → Option (Scheme Name)) (r : Found (Scheme Name)) (f : TopFault)
    → LeadsTo view C p x.path (Err f) → ((s : Found (Scheme Name)) → find_at pick [] x.path C ≡ s → r ≡ s) → Answers see (Err f) (need c p x r)
leads_refused view see c p x C pick r Memory h e = tt
leads_refused view see c p x C pick r (Fault g) (s, h, k) e =
    subst (λ r. need c p x r (refused (fault_of g))) (sym (e (no_path s) (h pick))) (ap refused k)

-- what was made is what the reading accepts
pub made_so : {X Y : Type 0} (y : Y) (view : X → Y) (r : Result X TopFault) (R : Reading Place Y) → IsMade y view r → R (accepted y) → Answers view r R
made_so y view (Ok x) R h k = subst (λ z. R (accepted z)) (sym h) k
made_so y view (Err Memory) R h k = tt
made_so y view (Err (Fault f)) R h k = absurd h

pub made_same : {X Y : Type 0} (y z : Y) (view : X → Y) (r : Result X TopFault) → y ≡ z → IsMade y view r → IsMade z view r
made_same y z view r e h = subst (λ y. IsMade y view r) e h

-- a fault is one whatever is seen of a result
unfoldable pub RefusedBy : {Y : Type 0} → TopFault → Reading Place Y → Type 0
RefusedBy Memory R = Unit {0}
RefusedBy (Fault f) R = R (refused (fault_of f))

pub refusal : {X Y : Type 0} (view : X → Y) (f : TopFault) (R : Reading Place Y) → Answers view (Err f) R → RefusedBy f R
unfolding RefusedBy
refusal view Memory R h = tt
refusal view (Fault f) R h = h

pub refuses : {X Y : Type 0} (view : X → Y) (f : TopFault) (R : Reading Place Y) → RefusedBy f R → Answers view (Err f) R
unfolding RefusedBy
refuses view Memory R h = tt
refuses view (Fault f) R h = h

-- the first of two is refused
pub first_refused : {X Y : Type 0} (m : Reading Place X) (next : X → Reading Place Y) (f : TopFault) → RefusedBy f m → RefusedBy f (m >>= next)
unfolding RefusedBy
first_refused m next Memory h = tt
first_refused m next (Fault f) h = then_refused m next (fault_of f) h

pub refused_on : {X Y : Type 0} (f : TopFault) (R : Reading Place X) (S : Reading Place Y) → ((g : F.Fault Place) → R (refused g) → S (refused g)) → RefusedBy f R → RefusedBy f S
unfolding RefusedBy
refused_on Memory R S h k = tt
refused_on (Fault f) R S h k = h (fault_of f) k

pub on_ok : {X E : Type 0} (r : Result X E) (P : Type 0) → P → OnOk r P
on_ok (Ok x) P p = p
on_ok (Err e) P p = tt
