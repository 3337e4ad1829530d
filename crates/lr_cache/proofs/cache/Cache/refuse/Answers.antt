use Rattle.std.proofs.Common.{refl}
use Rattle.lr_cache.specs.declared.call.CacheReply.TheVariants.{NoClaim}
use Rattle.lr_cache.proofs.cache.Cache.refuse.Goals as goal

pub returns-clause-kept : goal.returns-clause-kept
returns-clause-kept c = record {
  fixed = rw (← c.self.view_is) refl;
  logged = rw (← c.self.view_is) (record { caller = c.args.caller; call = c.args.call; reply = NoClaim }, (cc), refl, record { logged = refl; noted = refl; told = refl }, λ u. u);
  unlogged = tt;
}
