-- What a run leaves of its jobs.
use Rattle.std.specs.Prelude.{◌≡◌, ◌≤◌, ◌<◌, ◌⊎◌, ℕ, List, length}
use Rattle.std.specs.List.{slice_index_or}

module _ {J : Type 0} (does : J → J → Type 0) where
  -- each job has run
  abbrev pub EachDid : List J → List J → Type 0
  EachDid before after = (i : ℕ) (d : J) → i < length before
      → does (slice_index_or before i d) (slice_index_or after i d)

  -- each job has run or is as it was
  abbrev pub EachDidOrIs : List J → List J → Type 0
  EachDidOrIs before after = (i : ℕ) (d : J) → i < length before
      → does (slice_index_or before i d) (slice_index_or after i d)
      ⊎ (slice_index_or after i d ≡ slice_index_or before i d)

  -- the first n jobs have run, and the others are as they were
  abbrev pub FirstDid : (n : ℕ) → List J → List J → Type 0
  FirstDid n before after = (i : ℕ) (d : J) → i < length before
      → (i < n → does (slice_index_or before i d) (slice_index_or after i d))
      × (n ≤ i → slice_index_or after i d ≡ slice_index_or before i d)
