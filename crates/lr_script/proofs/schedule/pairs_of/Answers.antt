use Rattle.std.proofs.Common.{◌<◌, ◌+◌, drop, length, arith, rules, tests, sym, ◌∙◌, refl}
use Rattle.std.proofs.lemmas.Bool.{false≢true}
use Rattle.lr_script.specs.State.{actor_names}
use Rattle.lr_script.proofs.PairsFacts.{pair_more, only_pairs, no_pair, full, none_read, other_word, read_pairs, ends, ends_rounds, two_at, length_at, word_at, not_none, word, texts}
use Rattle.lr_script.proofs.schedule.pairs_of.Goals as goal

pub returns-in_default-clause-only : goal.returns-in_default-clause-only
returns-in_default-clause-only c =
    only_pairs (actor_names c.args.reading.now) (texts c.args.words.now) c.requires (no_pair (actor_names c.args.reading.now) (texts c.args.words.now) (texts (drop c.loop-at.at c.args.words.now)) c.loop-at.pairs.items c.loop-at.left (word c.args.words.now c.loop-at.at) (word c.args.words.now (c.loop-at.at + 1)) (texts (drop (c.loop-at.at + 2) c.args.words.now)) c.loop-at.invariant.reached (two_at c.args.words.now c.loop-at.at c.loop-at-test.true) (λ p is le. not_none (c.in_default.ensures.place ∙ is.declared)))

pub returns-in_default-number_between-clause-only : goal.returns-in_default-number_between-clause-only
returns-in_default-number_between-clause-only c =
    only_pairs (actor_names c.args.reading.now) (texts c.args.words.now) c.requires (no_pair (actor_names c.args.reading.now) (texts c.args.words.now) (texts (drop c.loop-at.at c.args.words.now)) c.loop-at.pairs.items c.loop-at.left (word c.args.words.now c.loop-at.at) (word c.args.words.now (c.loop-at.at + 1)) (texts (drop (c.loop-at.at + 2) c.args.words.now)) c.loop-at.invariant.reached (two_at c.args.words.now c.loop-at.at c.loop-at-test.true) (λ p is le. c.in_default-number_between.ensures.only p.1 is.spelled is.some le))

pub returns-then-len-ge-PAIRS_MOST-clause-only : goal.returns-then-len-ge-PAIRS_MOST-clause-only
returns-then-len-ge-PAIRS_MOST-clause-only c =
    only_pairs (actor_names c.args.reading.now) (texts c.args.words.now) c.requires (full (actor_names c.args.reading.now) (texts c.args.words.now) (texts (drop c.loop-at.at c.args.words.now)) c.loop-at.pairs.items c.loop-at.left (word c.args.words.now c.loop-at.at) (word c.args.words.now (c.loop-at.at + 1)) (texts (drop (c.loop-at.at + 2) c.args.words.now)) c.loop-at.invariant.reached (two_at c.args.words.now c.loop-at.at c.loop-at-test.true) (let l = c.len.ensures in let t = c.if-len-ge-PAIRS_MOST.true in omega arith))

pub loop-at-preserved : goal.loop-at-preserved
loop-at-preserved c =
    let f = c.in-Some-number_between.ensures.found in
    rw c.in_ok-push.ensures.items record {
      within = c.loop-at-test.true;
      reached = pair_more (actor_names c.args.reading.now) (texts c.args.words.now) (texts (drop c.loop-at.at c.args.words.now)) c.loop-at.pairs.items c.loop-at.left (word c.args.words.now c.loop-at.at) (word c.args.words.now (c.loop-at.at + 1)) (texts (drop (c.loop-at.at + 2) c.args.words.now)) (c.in-Some.actor + 1, c.in-Some-number_between.count) c.loop-at.invariant.reached (two_at c.args.words.now c.loop-at.at c.loop-at-test.true)
          (record { actor = c.in-Some.actor; declared = sym c.in-Some.ensures.place; number = refl; spelled = f.0; some = f.1 }) f.2 (let l = c.len.ensures in let t = c.if-len-ge-PAIRS_MOST.false in omega arith);
    }

pub returns-then-is_empty-clause-only : goal.returns-then-is_empty-clause-only
returns-then-is_empty-clause-only c =
    only_pairs (actor_names c.args.reading.now) (texts c.args.words.now) c.requires (none_read (actor_names c.args.reading.now) (texts c.args.words.now) (texts (drop c.loop-at.at c.args.words.now)) c.loop-at.pairs.items c.loop-at.left c.loop-at.invariant.reached (let l = length_at c.args.words.now c.loop-at.at in let t = c.loop-at-test.false in omega arith) (search (rules, tests)))

pub returns-then-at-words-clause-found : goal.returns-then-at-words-clause-found
returns-then-at-words-clause-found c =
    read_pairs (actor_names c.args.reading.now) (texts c.args.words.now) (texts (drop c.loop-at.at c.args.words.now)) c.loop-at.pairs.items c.loop-at.left _ c.loop-at.invariant.reached (let some : 0 < length c.loop-at.pairs.items = search (rules, tests) in some) (ends (actor_names c.args.reading.now) (texts (drop c.loop-at.at c.args.words.now)) (let l = length_at c.args.words.now c.loop-at.at in let t = c.if-at-words.true in omega arith))

pub returns-then-is-clause-found : goal.returns-then-is-clause-found
returns-then-is-clause-found c =
    read_pairs (actor_names c.args.reading.now) (texts c.args.words.now) (texts (drop c.loop-at.at c.args.words.now)) c.loop-at.pairs.items c.loop-at.left _ c.loop-at.invariant.reached (let some : 0 < length c.loop-at.pairs.items = search (rules, tests) in some) (ends_rounds (actor_names c.args.reading.now) (texts (drop c.loop-at.at c.args.words.now)) (word c.args.words.now c.loop-at.at) (let l = length_at c.args.words.now c.loop-at.at in let t = c.loop-at-test.false in let h = c.loop-at.invariant.within in let s = c.if-at-words.false in omega arith) (word_at c.args.words.now c.loop-at.at (let h = c.loop-at.invariant.within in let t = c.if-at-words.false in omega arith)) (c.is.ensures.0 c.if-is.true))

pub returns-clause-only : goal.returns-clause-only
returns-clause-only c =
    only_pairs (actor_names c.args.reading.now) (texts c.args.words.now) c.requires (other_word (actor_names c.args.reading.now) (texts c.args.words.now) (texts (drop c.loop-at.at c.args.words.now)) c.loop-at.pairs.items c.loop-at.left (word c.args.words.now c.loop-at.at) c.loop-at.invariant.reached (let l = length_at c.args.words.now c.loop-at.at in let t = c.loop-at-test.false in let h = c.loop-at.invariant.within in let s = c.if-at-words.false in omega arith) (word_at c.args.words.now c.loop-at.at (let h = c.loop-at.invariant.within in let t = c.if-at-words.false in omega arith)) (λ e. let t = c.is.ensures.1 e in let f = c.if-is.false in absurd (false≢true (sym f ∙ t))))
