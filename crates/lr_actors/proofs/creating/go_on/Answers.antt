use Rattle.std.proofs.Common.{ℕ, ◌+◌, ◌-◌, ◌≤◌, List, length, subst, sym, arith}
use Rattle.lr_walk.specs.Depot.{Step as DepotStep}
use Rattle.lr_walk.specs.Depot as depots
use Rattle.lr_walk.specs.Steps.{Reply}
use Rattle.lr_actors.specs.Asked.{seen_reply}
use Rattle.lr_creator.specs.Progress as creations
use Rattle.lr_actors.specs.Bounds.{chunks, puts_left, steps_left}
use Rattle.lr_actors.specs.Creating.{Progress, Stands, IsSteady, Admits}
use Rattle.lr_actors.proofs.Bounds.{puts_near}
use Rattle.lr_actors.proofs.Created.{Takes, Follows, takes_more}
use Rattle.lr_actors.proofs.Steady.{step_steady}
use Rattle.lr_actors.proofs.creating.go_on.Goals as goal

pub feed-requires-clause-steady : goal.feed-requires-clause-steady
feed-requires-clause-steady c =
    subst (λ (l : List ℕ). IsSteady (record { create = c.take.new.self; raw = l; given = c.args.given })) (sym c.as_slice.ensures.value)
    (step_steady (record { create = c.args.create.now; raw = c.args.raw.now.items; given = c.args.given }) c.take.new.self (depots.seen_reply c.of_depot.result) c.take.ensures.next c.requires.steady)

pub returns-clause-steady : goal.returns-clause-steady
returns-clause-steady c = subst (λ (l : List ℕ). IsSteady (record { create = c.feed.new.create; raw = l; given = c.feed.result })) c.as_slice.ensures.value c.feed.ensures.steady

pub returns-clause-stands : goal.returns-clause-stands
returns-clause-stands c = λ steps more adds stands.
    let old : Progress = record { create = c.args.create.now; raw = c.args.raw.now.items; given = c.args.given } in
    let new : Progress = record { create = c.feed.new.create; raw = c.args.raw.now.items; given = c.feed.result } in
    takes_more old new c.take.new.self (seen_reply c.args.reply) c.requires.admitted
    (subst (λ (r : Reply). Follows c.args.create.now c.take.new.self r) c.of_depot.ensures c.take.ensures.next)
    (subst (λ (r : Reply). Takes c.args.create.now c.take.new.self r) c.of_depot.ensures (λ given own s. c.take.ensures.stands given own s))
    (subst (λ (l : List ℕ). (own : List DepotStep) → Stands (record { create = c.take.new.self; raw = l; given = c.args.given }) own → Stands (record { create = c.feed.new.create; raw = l; given = c.feed.result }) own) c.as_slice.ensures.value c.feed.ensures.stands)
    steps more adds stands

pub returns-clause-nears : goal.returns-clause-nears
returns-clause-nears c =
    let n : ℕ = chunks (length c.args.raw.now.items - c.args.given) in
    let p : Progress = record { create = c.args.create.now; raw = c.args.raw.now.items; given = c.args.given } in
    let fed : steps_left (record { create = c.feed.new.create; raw = c.args.raw.now.items; given = c.feed.result }) ≤ puts_left c.take.new.self.need n =
    subst (λ (l : List ℕ). steps_left (record { create = c.feed.new.create; raw = l; given = c.feed.result }) ≤ steps_left (record { create = c.take.new.self; raw = l; given = c.args.given })) c.as_slice.ensures.value c.feed.ensures.nears in
    let near : puts_left (creations.advanced c.args.create.now.need (depots.seen_reply c.of_depot.result)) n + 1 ≤ puts_left c.args.create.now.need n =
    puts_near c.args.create.now.need (depots.seen_reply c.of_depot.result) n (subst (λ (r : Reply). Admits p r) (sym c.of_depot.ensures) c.requires.admitted) in
    let mid : puts_left c.take.new.self.need n + 1 ≤ puts_left c.args.create.now.need n =
    subst (λ (q : creations.Need). puts_left q n + 1 ≤ puts_left c.args.create.now.need n) (sym c.take.ensures.next) near in
    omega arith
