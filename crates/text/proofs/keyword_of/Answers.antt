-- What is found is spelled by the bytes, and where none is found no word is.
use Rattle.text.proofs.Laws.{keyword_read}
use Rattle.text.proofs.keyword_of.Goals as goal

pub returns : goal.returns
returns g c =
    let first = c.first_spelled.ensures.value in
    record {
      value = first;
      spelled_so = keyword_read g.K.Keyword.spelled g.K.Keyword.table c.args.field.now c.first_spelled.result first g.met.K.Keyword.found;
    }
