use Rattle.std.specs.FinMap as map
use Rattle.lr_headline.specs.Headline.{bare}
use Rattle.lr_headline.proofs.Wholes.{are_apart}
use Rattle.lr_headline.proofs.laws.runs_follow.Goals as goal

pub returns : goal.returns
returns c k is =
    let run = bare k in
    let trails = c.runs_are_runs.ensures.trails k map.empty map.empty is in
    let devices = c.runs_are_runs.ensures.devices k map.empty map.empty is in
    let caches = c.runs_are_runs.ensures.caches k map.empty map.empty is in
    record {
      legal = c.grown_logs_are_legal.ensures run devices;
      pieces = c.used_pieces_were_loaded.ensures run trails;
      planned = c.commits_are_planned.ensures run devices;
      once = c.calls_are_answered_once.ensures.once run trails;
      jobs = c.calls_are_answered_once.ensures.jobs run trails;
      order = c.calls_are_answered_once.ensures.order run trails;
      loads = c.chunks_are_fetched_on_demand.ensures.loads run trails;
      demanded = c.chunks_are_fetched_on_demand.ensures.demanded run trails devices;
      claims = λ host s names room free nobody x. c.fetches_are_few.ensures.uncrashed run host s names trails devices caches (are_apart k map.empty map.empty is) room free nobody x;
    }
