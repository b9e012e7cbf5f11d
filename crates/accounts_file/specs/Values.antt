-- How the values in a table of an accounts file are read.
use Rattle.std.specs.Prelude.{ℕ, ℤ, pos, negsuc, Bool, false, List, [], ◌∷◌, map, Option, None, Some, is_some, unwrap_or, if◌then◌else◌}
use Rattle.std.specs.List.{list_all}
use Rattle.std.specs.Option.{option_map, option_and_then}
use Rattle.toml.specs.Data.{Data, Items, no_items, item, Members, as_str, as_integer, as_bool, as_array}
use Rattle.accounts_file.specs.declared.key.Key.{Key}
use Rattle.accounts_file.specs.declared.error.AccountsError.{AccountsError}
use Rattle.accounts_file.specs.Keys.{value_at}
use Rattle.accounts_file.specs.Refusals.{optional, needed}
use Rattle.accounts_file.specs.Rules.{fits, is_number, spelling}

abbrev pub whole_number : Key → Option ℤ → Option ℕ
whole_number key None = None
whole_number key (Some (pos n)) = if is_number key n then Some n else None
whole_number key (Some (negsuc n)) = None

-- the number that the value is, if the key may have it
abbrev pub number_of : Key → Data → Option ℕ
number_of key value = whole_number key (as_integer value)

abbrev pub kept_text : Key → Option (List ℕ) → Option (List ℕ)
kept_text key None = None
kept_text key (Some text) = if fits key text then Some (spelling key text) else None

-- the text that the value is, as it is kept, if the key may have it
abbrev pub text_of : Key → Data → Option (List ℕ)
text_of key value = kept_text key (as_str value)

-- the items of an array, as a list
abbrev pub list_of : Items → List Data
list_of no_items = []
list_of (item value items) = value ∷ list_of items

abbrev pub items_of : Data → Option (List Data)
items_of value = option_map list_of (as_array value)

abbrev pub is_text : Key → Data → Bool
is_text key value = is_some (text_of key value)

abbrev pub text_or_empty : Key → Data → List ℕ
text_or_empty key value = unwrap_or (text_of key value) []

abbrev pub are_all : (Data → Bool) → Option (List Data) → Bool
are_all good None = false
are_all good (Some items) = list_all good items

-- the value is a list of texts that the key may have
abbrev pub are_texts : Key → Data → Bool
are_texts key value = are_all (is_text key) (items_of value)

-- what is at a key: a number, a flag, a text, and the items of a list
abbrev pub number_at : Key → Members → Option ℕ
number_at key table = option_and_then (number_of key) (value_at key table)

abbrev pub flag_at : Key → Members → Bool
flag_at key table = unwrap_or (option_and_then as_bool (value_at key table)) false

abbrev pub text_at : Key → Members → Option (List ℕ)
text_at key table = option_and_then (text_of key) (value_at key table)

abbrev pub items_at : Key → Members → List Data
items_at key table = unwrap_or (option_and_then items_of (value_at key table)) []

abbrev pub texts_at : Key → Members → List (List ℕ)
texts_at key table = map (text_or_empty key) (items_at key table)

-- what is refused at a key if the value does not have its kind and range
abbrev pub number_refusal : Key → Members → Option AccountsError
number_refusal key table =
    optional key (option_map (λ value. is_some (number_of key value)) (value_at key table))

abbrev pub flag_refusal : Key → Members → Option AccountsError
flag_refusal key table =
    optional key (option_map (λ value. is_some (as_bool value)) (value_at key table))

abbrev pub needed_text_refusal : Key → Members → Option AccountsError
needed_text_refusal key table = needed key (option_map (is_text key) (value_at key table))

abbrev pub text_refusal : Key → Members → Option AccountsError
text_refusal key table = optional key (option_map (is_text key) (value_at key table))

abbrev pub texts_refusal : Key → Members → Option AccountsError
texts_refusal key table = optional key (option_map (are_texts key) (value_at key table))
