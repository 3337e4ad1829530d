use Rattle.std.proofs.Common.{refl, rules}
use Rattle.lr_cache.specs.declared.call.CacheCall.TheVariants.{Look}
use Rattle.lr_cache.specs.declared.call.CacheReply.TheVariants.{Hit, Lead}
use Rattle.lr_object.proofs.Found.{found_there}
use Rattle.lr_cache.proofs.cache.Cache.look.Goals as goal

pub returns-in-Some-clause-kept : goal.returns-in-Some-clause-kept
returns-in-Some-clause-kept c = record {
  fixed = rw (← c.self.view_is) refl;
  logged = rw (← c.self.view_is) (record { caller = c.args.caller; call = Look c.args.name; reply = Hit c.in-Ok-owner_of.kept }, (cc), refl, record { logged = refl; noted = refl; told = (cc (c.in-Ok.ensures, c.in-Ok-owner_of.ensures, c.as_slice-in-Some.ensures.value, c.as_slice-in-Some-2.ensures.value)) }, λ u. u);
  unlogged = tt;
}

pub returns-clause-kept : goal.returns-clause-kept
returns-clause-kept c = record {
  fixed = rw (← c.self.view_is) refl;
  logged = rw (← c.self.view_is) (record { caller = c.args.caller; call = Look c.args.name; reply = Lead }, (cc), refl, record { logged = refl; noted = refl; told = refl }, λ u. u);
  unlogged = tt;
}

pub returns-in-Some-claim_on-clause-answered : goal.returns-in-Some-claim_on-clause-answered
returns-in-Some-claim_on-clause-answered c = rw (← c.self.view_is) (search rules, search rules, (c.index.result.now, rw (← c.self.invariant.3) (found_there (rw c.as_slice-3.ensures.value at c.in-Some-claim_on.ensures) c.index.ensures), refl))
