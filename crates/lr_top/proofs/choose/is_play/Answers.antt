use Rattle.std.proofs.Common.{Global}
use Rattle.std.specs.String.{string_bytes}
use Rattle.lr_top.proofs.OneWord.{only_word}
use Rattle.lr_top.proofs.choose.is_play.Goals as goal

pub returns-in-len1 : goal.returns-in-len1
returns-in-len1 c = only_word (string_bytes {Z = Global}) c.args.words.now c.word-item.result c.as_str.result.now _ c.eq.result c.in-len1.len_at_least c.in-len1.len_below c.word-item.is c.as_str.ensures.value c.eq.ensures
