-- What the bytes that were read tell of all that was left.
use Rattle.std.proofs.Common.{◌≡◌, ℕ, ◌<◌, ◌≤◌, List, length, Option, subst, sym}
use Rattle.std.specs.Prelude.{◌⊎◌}
use Rattle.std.proofs.Common.{inl, inr}
use Rattle.std.proofs.lemmas.Bool.{cases_lt}
use Rattle.lr_io.specs.Streams.{Takes, TakesAll}
use Rattle.lr_script.specs.Seen.{ScriptSeen}
use Rattle.lr_script.specs.Grammar.{Spells, FirstOutside}
use Rattle.lr_script.proofs.Unique.{not_both}
use Rattle.lr_script.proofs.Longer.{spells_within, outside_longer}
use Rattle.lr_top.specs.Top.{IsReadAs, IsOutsideAt, HasNoLineOutside}

-- Bytes that spell a script are all that was left.
pub is_read : (left left_after : Option (List ℕ)) (now text : List ℕ) (script : ScriptSeen) → now ≡ text
    → (length text ≤ 4194304 → TakesAll left text left_after) → Spells now script → IsReadAs left script left_after
is_read left left_after now text script same whole spells = λ xs told.
    let s : Spells text script = subst (λ (t : List ℕ). Spells t script) same spells in
    let all = whole (spells_within text script s) xs told in
    (subst (λ (t : List ℕ). Spells t script) (sym all.0) s, all.1)

-- Then no line is outside.
pub none_outside : (left left_after : Option (List ℕ)) (now text : List ℕ) (script : ScriptSeen) → now ≡ text
    → (length text ≤ 4194304 → TakesAll left text left_after) → Spells now script → HasNoLineOutside left
none_outside left left_after now text script same whole spells = λ xs told n outside.
    let read = is_read left left_after now text script same whole spells xs told in
    not_both xs script n read.0 outside

outside_by_size : (left left_after : Option (List ℕ)) (text : List ℕ) (n : ℕ) → (4194304 < length text) ⊎ (length text ≤ 4194304)
    → Takes left text left_after → (length text ≤ 4194304 → TakesAll left text left_after) → FirstOutside text n → IsOutsideAt left n
outside_by_size left left_after text n (inr short) takes whole outside = λ xs told.
    subst (λ (t : List ℕ). FirstOutside t n) (sym (whole short xs told).0) outside
outside_by_size left left_after text n (inl long) takes whole outside = λ xs told.
    let t = takes xs told in
    subst (λ (ys : List ℕ). FirstOutside ys n) (sym t.1) (outside_longer text t.0 n long outside)

-- The first line outside of what was read is that of what was left.
pub is_outside : (left left_after : Option (List ℕ)) (now text : List ℕ) (n : ℕ) → now ≡ text
    → Takes left text left_after → (length text ≤ 4194304 → TakesAll left text left_after) → FirstOutside now n → IsOutsideAt left n
is_outside left left_after now text n same takes whole outside =
    outside_by_size left left_after text n (cases_lt 4194304 (length text)) takes whole (subst (λ (t : List ℕ). FirstOutside t n) same outside)
