-- Sessions by their callers and images.
use Rattle.std.specs.Prelude.{◌≡◌, ◌==◌, ℕ, List, Bool, true, not, Option, Some, None}
use Rattle.std.specs.Ordering.{nat_cmp}
use Rattle.std.specs.FinMap as map
use Rattle.std.specs.FinMap.{FinMap}
use Rattle.lr_origin.specs.declared.key.KeyKind.{KeyKind}
use Rattle.lr_origin.specs.declared.key.KeyKind.TheVariants.{Manifest}
use Rattle.lr_rules.specs.State.{Job, Session, Creates as Creation}
use Rattle.lr_rules.specs.Calls.{ended}

-- it is a create session of the image
abbrev pub IsCreation : List ℕ → Session → Type 0
IsCreation image s = (c : ℕ) × (r : ℕ) × (d : ℕ) × (s ≡ record { caller = c; job = Creation image r d })

-- the image that a session creates, if it creates one
abbrev pub IsCreated : Option (List ℕ) → Session → Type 0
IsCreated (Some image) s = IsCreation image s
IsCreated None s = (image : List ℕ) → ¬ (IsCreation image s)

-- the job of a caller's session, if the caller has this session
abbrev pub IsJobOf : FinMap nat_cmp Session → ℕ → ℕ → Option Job → Type 0
IsJobOf sessions n c None = (j : Job) → ¬ (map.get sessions n ≡ Some (record { caller = c; job = j }))
IsJobOf sessions n c (Some j) = map.get sessions n ≡ Some (record { caller = c; job = j })

-- a create session has the image
abbrev pub HasCreation : FinMap nat_cmp Session → List ℕ → Type 0
HasCreation sessions image =
    (n : ℕ) × (c : ℕ) × (r : ℕ) × (d : ℕ) × (map.get sessions n ≡ Some (record { caller = c; job = Creation image r d }))

-- whether a session isn't the caller's
abbrev pub is_another : ℕ → Option Session → Bool
is_another caller None = true
is_another caller (Some s) = not (s.caller == caller)

-- the sessions of all other callers
abbrev pub without_caller : ℕ → FinMap nat_cmp Session → FinMap nat_cmp Session
without_caller caller sessions = map.retain_keys sessions (λ n. is_another caller (map.get sessions n))

-- without the session that made the put of a manifest
abbrev pub without_maker : FinMap nat_cmp Session → KeyKind → Option ℕ → FinMap nat_cmp Session
without_maker sessions (Manifest r image) maker = ended sessions maker
without_maker sessions k maker = sessions
