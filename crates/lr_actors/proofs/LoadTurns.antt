-- a load's turns in a device call
use Rattle.std.proofs.Common.{◌≡◌, sym, ap, subst, ◌∙◌}
use Rattle.lr_walk.specs.declared.place.LoadPlace.{LoadPlace}
use Rattle.lr_walk.specs.Steps.{Reply, by_device, by_cache, by_node, by_depot}
use Rattle.lr_walk.specs.Load.{Ending, with_reply}
use Rattle.lr_walk.specs.Depot as depots
use Rattle.lr_walk.specs.Device as devices
use Rattle.lr_loader.specs.Progress.{looking, asking, fetching, putting, filling, giving, ended, Asked, a_call, an_end, asked, AnswersAsked, Admits, Next}
use Rattle.lr_loader.specs.Progress as loads
use Rattle.lr_actors.specs.Serving.{Work, Chunk, Left, Need, loading, dropping, Loaded, LoadWent}
use Rattle.lr_actors.specs.Stages.{IsOfLoad, IsLoadCall, IsUnderWay, EndsWell, GoesWell}
use Rattle.lr_actors.specs.Lifted.{answer_to}
use Rattle.lr_actors.proofs.Loads.{ended_at, under_way}

no_device : (place : LoadPlace) (need : loads.Need) (reply : devices.Reply) → AnswersAsked (asked place need) (by_device reply) → ⊥
no_device place looking reply a = a
no_device place (asking left held) reply a = a
no_device place fetching reply a = a
no_device place (putting chunk stripe more) reply a = a
no_device place (filling chunk) reply a = a
no_device place (giving end) reply a = a
no_device place (ended end) reply a = a

-- a load gets no reply of a device
pub of_load : (place : LoadPlace) (need : loads.Need) (reply : Reply) → Admits place need reply → IsOfLoad reply
of_load place need (by_device reply) a = no_device place need reply a.answers
of_load place need (by_cache reply) a = tt
of_load place need (by_node reply) a = tt
of_load place need (by_depot reply) a = tt

-- a load that hands out its end
pub ends_well : (place : LoadPlace) (need : loads.Need) (end : Ending) → an_end end ≡ asked place need → GoesWell need → EndsWell end
ends_well place need end e w = subst GoesWell (ended_at place need end (sym e)) w

pub went_end : (w : Work) (chunk : Chunk) (left : Left) (place : LoadPlace) (next : loads.Need) (end : Ending) (new : Need) → an_end end ≡ asked place next → Loaded w chunk left end new
    → LoadWent w chunk left next new
went_end w chunk left place next end new e l = subst (λ (q : loads.Need). LoadWent w chunk left q new) (sym (ended_at place next end (sym e))) l

-- a load that hands out a call
pub goes_under_way : (place : LoadPlace) (need : loads.Need) (a : Asked) → a ≡ asked place need → IsLoadCall a → IsUnderWay need
goes_under_way place need a e c = under_way place need (subst IsLoadCall e c)

went_under_way : (w : Work) (chunk : Chunk) (left : Left) (next : loads.Need) (new : Need) → IsUnderWay next → new ≡ loading chunk next left → LoadWent w chunk left next new
went_under_way w chunk left (ended end) new u e = absurd u
went_under_way w chunk left next new u e = e

pub went_on : (w : Work) (chunk moved : Chunk) (left : Left) (place : LoadPlace) (next : loads.Need) (a : Asked) (new : Need) → a ≡ asked place next → IsLoadCall a → moved ≡ chunk
    → new ≡ loading moved next left → LoadWent w chunk left next new
went_on w chunk moved left place next a new e c same n =
    went_under_way w chunk left next new (goes_under_way place next a e c) (n ∙ ap (λ (q : Chunk). loading q next left) same)

-- a failure of the depot drops the plan
pub failed : (w : Work) (chunk : Chunk) (left : Left) (reply : depots.Reply) (new : Need) → EndsWell (with_reply reply) → new ≡ dropping (answer_to reply) → Loaded w chunk left (with_reply reply) new
failed w chunk left (depots.fault key) new e n = n
failed w chunk left (depots.spoiled key) new e n = n
failed w chunk left reply new e n = absurd e
