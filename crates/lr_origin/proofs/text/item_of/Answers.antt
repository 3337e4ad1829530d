use Rattle.std.proofs.Common.{rules, ◌≡◌, ap, ◌∙◌, sym, None, arith}
use Rattle.lr_text.specs.Name.{is_name}
use Rattle.lr_origin.proofs.KeyTexts.{shows, read_Root, read_Expired, read_Deleted, read_Chunk, read_no_chunk, read_Manifest, read_no_manifest, read_nothing}
use Rattle.lr_origin.proofs.text.item_of.Goals as goal

pub returns-in-97 : goal.returns-in-97
returns-in-97 c = let b = c.args.bytes.now in λ k i e. read_Root b c.args.root c.requires.root c.requires.other c.in-97.is k i (shows b k i e)

pub returns-in-101 : goal.returns-in-101
returns-in-101 c = let b = c.args.bytes.now in λ k i e. read_Expired b c.args.root c.requires.root c.requires.other c.in-101.is k i (shows b k i e)

pub returns-in-100 : goal.returns-in-100
returns-in-100 c = let b = c.args.bytes.now in λ k i e. read_Deleted b c.args.root c.requires.root c.requires.other c.in-100.is k i (shows b k i e)

pub returns-in_ok-key_of-in-99 : goal.returns-in_ok-key_of-in-99
returns-in_ok-key_of-in-99 c =
    let b = c.args.bytes.now in
    let h = c.in_ok-key_of-in-99.ensures.found in
    λ k i e. read_Chunk b c.args.root c.requires.root c.requires.other c.in-99.is c.in_ok-key_of-in-99.field-0 h.0 (sym c.name_in.ensures ∙ h.1) k i (shows b k i e)

pub returns-in_err-key_of-in-99 : goal.returns-in_err-key_of-in-99
returns-in_err-key_of-in-99 c =
    let b = c.args.bytes.now in
    let none : c.from_residual.result ≡ None = search rules in
    λ k i e. none ∙ read_no_chunk b c.args.root c.requires.root c.requires.other c.in-99.is (λ key is same. c.in_err-key_of-in-99.ensures.only key is (c.name_in.ensures ∙ same)) k i (shows b k i e)

pub returns-in_ok-parse-in-109 : goal.returns-in_ok-parse-in-109
returns-in_ok-parse-in-109 c =
    let b = c.args.bytes.now in
    λ k i e. read_Manifest b c.args.root c.requires.root c.requires.other c.in-109.is c.in_ok-parse-in-109.field-0 (c.in_ok-parse-in-109.ensures.found.0 ∙ c.name_in-in-109.ensures) k i (shows b k i e)

pub returns-in_err-parse-in-109 : goal.returns-in_err-parse-in-109
returns-in_err-parse-in-109 c =
    let b = c.args.bytes.now in
    let none : c.from_residual-in_err-parse-in-109.result ≡ None = search rules in
    λ k i e. none ∙ read_no_manifest b c.args.root c.requires.root c.requires.other c.in-109.is (ap is_name (sym c.name_in-in-109.ensures) ∙ c.in_err-parse-in-109.ensures.only) k i (shows b k i e)

pub returns-in_default : goal.returns-in_default
returns-in_default c =
    let b = c.args.bytes.now in
    let h = c.in_default in
    λ k i e. read_nothing b c.args.root c.requires.root c.requires.other (λ x. grind (arith, h)) (λ x. grind (arith, h)) (λ x. grind (arith, h)) (λ x. grind (arith, h)) (λ x. grind (arith, h)) k i (shows b k i e)
