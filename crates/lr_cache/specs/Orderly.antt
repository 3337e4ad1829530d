-- What holds after every log of a cache.
use Rattle.std.specs.Prelude.{ℕ, ◌+◌, ◌≤◌, List, [], length, count_by}
use Rattle.std.specs.Str.{bytes_eq}
use Rattle.sha2.specs.Sha256.{sha256}
use Rattle.lr_object.specs.Grown.{Grown}
use Rattle.lr_cache.specs.declared.call.CacheCall.{CacheCall}
use Rattle.lr_cache.specs.declared.call.CacheReply.{CacheReply}
use Rattle.lr_cache.specs.Claims.{is_of}
use Rattle.lr_cache.specs.Machine.{State, CacheStep, LogEntry, run, Enters}

-- the test of answers of a cache of this capacity
abbrev pub Answers : ℕ → List LogEntry → ℕ → CacheCall → CacheReply → Type 0
Answers capacity log caller call reply = CacheStep (run capacity log) caller call reply

-- the test of entries
abbrev pub MayEnter : ℕ → List LogEntry → ℕ → CacheCall → CacheReply → LogEntry → Type 0
MayEnter capacity log caller call reply e = Enters call reply e

-- The log is one that calls made of an empty one.
abbrev pub IsCacheLog : ℕ → List LogEntry → Type 0
IsCacheLog capacity log = Grown Answers MayEnter capacity [] log

-- At most one claim is a caller's, at most one claim or chunk is of a name, and the chunks are at most the capacity. So the
-- callers of claims differ, and so do their names and the names of chunks.
pub record IsOrderly (capacity : ℕ) (st : State) : Type 0 where
  pub callers : (caller : ℕ) → count_by (is_of caller) st.claims ≤ 1
  pub names : (name : List ℕ) → count_by (λ c. bytes_eq (sha256 c) name) st.chunks + count_by (λ c. bytes_eq c.name.bytes name) st.claims ≤ 1
  pub within : length st.chunks ≤ capacity

-- A cache is orderly after every log.
abbrev pub CachesAreOrderly : Type 0
CachesAreOrderly = (capacity : ℕ) (log : List LogEntry) → IsCacheLog capacity log → IsOrderly capacity (run capacity log)
