-- What is written down of an actor, as contracts see it.
use Rattle.std.specs.Prelude.{◌≡◌, ◌+◌, ◌≤◌, ℕ, [], ◌∷◌, ◌++◌, length, Bool, cond, vec_len, vec_capacity}
use Rattle.lr_object.specs.declared.id.ObjectId.{ObjectId}
use Rattle.lr_walk.specs.declared.trail.Answer.{Answer}
use Rattle.lr_walk.specs.declared.trail.Did.{Did}
use Rattle.lr_walk.specs.declared.trail.JobResult.{JobResult}
use Rattle.lr_walk.specs.Trails.{is_same}
use Rattle.lr_actors.specs.declared.trail.ActorState.TheVariants.{Unfinished}
use Rattle.lr_actors.specs.declared.tally.Tally.{Tally}
use Rattle.lr_actors.specs.declared.book.Book.{Book}
use Rattle.lr_actors.specs.Accounts.{Account, places_of}
use Rattle.lr_actors.specs.Tally.{count_of, IsSized, KeepsSize}
use Rattle.lr_actors.specs.Actor.{steps_in}

abbrev pub account_of : Book → Account
account_of b = record { results = b.trail.results.items; path = b.path.items }

-- The counts are those of the paths.
pub record IsBook (b : Book) : Type 0 where
  pub counted : (o : ObjectId) → count_of b.tally o ≡ length (places_of o (account_of b))
  pub made : b.made ≡ steps_in b.trail.results.items + length b.path.items

-- nothing was done, and there is memory for the results of so many jobs
pub record IsNewBook (jobs devices hosts nodes : ℕ) (b : Book) : Type 0 where
  pub is : IsBook b
  pub state : b.trail.state ≡ Unfinished
  pub steps : b.trail.steps ≡ 0
  pub results : b.trail.results.items ≡ []
  pub path : b.path.items ≡ []
  pub made : b.made ≡ 0
  pub sized : IsSized b.tally devices hosts nodes
  pub room : jobs ≤ vec_capacity b.trail.results

-- a step takes the place that its object's count says, where it found memory
pub record TakesPlace (old : Tally) (object : ObjectId) (memory : Bool) (at : ℕ) (new : Tally) : Type 0 where
  pub place : at ≡ cond memory 0 (count_of old object)
  pub counts : (o : ObjectId) → count_of new o ≡ count_of old o + cond memory 0 (cond (is_same object o) 1 0)
  pub sized : KeepsSize old new

-- the step of a call of this object
abbrev pub did_at : Account → ObjectId → Bool → Did
did_at a object memory = record { object = object; place = cond memory 0 (length (places_of object a)); memory = memory }

-- The path has this step behind.
pub record Noted (old : Book) (object : ObjectId) (memory : Bool) (new : Book) : Type 0 where
  pub is : IsBook new
  pub path : new.path.items ≡ old.path.items ++ did_at (account_of old) object memory ∷ []
  pub len : vec_len new.path ≡ vec_len old.path + 1
  pub capacity : vec_capacity new.path ≡ vec_capacity old.path
  pub trail : new.trail ≡ old.trail
  pub made : new.made ≡ old.made + 1
  pub sized : KeepsSize old.tally new.tally

-- The job under way has this answer, and the next one no step.
pub record Finished (old : Book) (said : Answer) (new : Book) : Type 0 where
  pub is : IsBook new
  pub result : JobResult
  pub answer : result.answer ≡ said
  pub walked : result.path.items ≡ old.path.items
  pub results : new.trail.results.items ≡ old.trail.results.items ++ result ∷ []
  pub path : new.path.items ≡ []
  pub room : vec_capacity new.trail.results ≡ vec_capacity old.trail.results
  pub state : new.trail.state ≡ old.trail.state
  pub steps : new.trail.steps ≡ old.trail.steps
  pub made : new.made ≡ old.made
  pub tally : new.tally ≡ old.tally

-- so many further steps find memory, and their count fits
pub record HasRoom (more : ℕ) (b : Book) : Type 0 where
  pub room : vec_len b.path + more ≤ vec_capacity b.path
  pub few : b.made + more ≤ 18446744073709551615

-- the same steps and results
pub record SameBook (old new : Book) : Type 0 where
  pub trail : new.trail ≡ old.trail
  pub path : new.path.items ≡ old.path.items
  pub tally : new.tally ≡ old.tally
  pub made : new.made ≡ old.made
