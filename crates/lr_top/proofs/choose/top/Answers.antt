use Rattle.std.proofs.Common.{◌≡◌, ◌∷◌, [], List, ℕ, codes, map, Global, ap, sym, ◌∙◌}
use Rattle.std.specs.String.{string_bytes}
use Rattle.lr_desk.specs.declared.words.Command.TheVariants.{Cat}
use Rattle.lr_desk.specs.Words.{words_of}
use Rattle.lr_top.proofs.Commanding.{play_no_cat}
use Rattle.lr_top.proofs.choose.top.Goals as goal

pub returns-then-is_play-clause-kept : goal.returns-then-is_play-clause-kept
returns-then-is_play-clause-kept g c = c.sound_stores_are_kept.ensures.plays _ _ _ _ _ _ c.play.ensures.plays

pub returns-then-is_play-clause-read : goal.returns-then-is_play-clause-read
returns-then-is_play-clause-read g c = λ image tenant bytes n worded. absurd (play_no_cat (map (string_bytes {Z = Global}) c.args.words.now) image tenant (c.is_play.ensures.0 c.if-is_play.true) worded)
