-- Members of JSON values, by paths of names.
use Rattle.std.specs.Prelude.{◌≡◌, ◌∷◌, ◌⊎◌, ℕ, Bool, true, false, ◌||◌, List, [], Option, None, Some, codes, is_some, option_and_then, unwrap_or}
use Rattle.serde_json.specs.Data.{Data, Items, no_items}
use Rattle.serde_json.specs.Find.{as_array, as_bool, as_null, as_number, as_str, as_u64, get}
use Rattle.serde_json.specs.View.{view}
use Rattle.sml_client.specs.declared.messages.Call.{Call}
use Rattle.sml_client.specs.declared.messages.Call.TheVariants.{Request, Notification, Answer, Other}

-- the value at a path of names
abbrev pub at_names : List (List ℕ) → Data → Option Data
at_names [] d = Some d
at_names (name ∷ names) d = option_and_then (at_names names) (get name d)

-- a number that is one
abbrev pub number_of : Data → Option ℕ
number_of d = option_and_then as_u64 (as_number d)

-- the list there, or none of its items
abbrev pub items_at : List (List ℕ) → Data → Items
items_at names d = unwrap_or (option_and_then as_array (at_names names d)) no_items

-- whether `true` stands there
abbrev pub is_true_in : List (List ℕ) → Data → Bool
is_true_in names d = unwrap_or (option_and_then as_bool (at_names names d)) false

-- the method of a message, where it is text
abbrev pub method_of : Data → Option (List ℕ)
method_of d = option_and_then as_str (get (codes "method") d)

-- a string, a number or null
abbrev pub can_be_id : Data → Bool
can_be_id d = is_some (as_str d) || is_some (as_number d) || is_some (as_null d)

-- the parameters of a message, or, where it has none, these
abbrev pub params_of : Data → Data → Data
params_of d none = unwrap_or (get (codes "params") d) none

-- a message has a result or an error
abbrev pub is_answer : Data → Bool
is_answer d = is_some (get (codes "result") d) || is_some (get (codes "error") d)

-- What a message asks for, where these are the parameters of one that has none. A request has an id and a method, a
-- notification a method and no id; an answer has no method.
abbrev pub IsCallOf : Data → Data → Call → Type 0
IsCallOf d none (Request id method params) =
    (get (codes "id") d ≡ Some (view id.now)) × (can_be_id (view id.now) ≡ true) × (method_of d ≡ Some method.now) × (view params.now ≡ params_of d none)
IsCallOf d none (Notification method params) = (get (codes "id") d ≡ None) × (method_of d ≡ Some method.now) × (view params.now ≡ params_of d none)
IsCallOf d none Answer = (get (codes "method") d ≡ None) × (is_answer d ≡ true)
IsCallOf d none Other =
    ((get (codes "method") d ≡ None) × (is_answer d ≡ false))
    ⊎ ((m : Data) × (get (codes "method") d ≡ Some m) × (as_str m ≡ None))
    ⊎ ((id : Data) × (get (codes "id") d ≡ Some id) × (can_be_id id ≡ false))
