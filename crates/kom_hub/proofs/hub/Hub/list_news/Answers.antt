use Rattle.kom_hub.proofs.Serving.{looked_serves}
use Rattle.kom_hub.proofs.hub.Hub.list_news.Goals as goal

pub returns-then-news-since-clause-goes : goal.returns-then-news-since-clause-goes
returns-then-news-since-clause-goes g c = λ gave gate begun serves.
    looked_serves g.T.Converse.kept g.T.Converse.talks g.L.Link.view g.met.T.Converse.kept_on
    g.met.T.Converse.talks_on begun _ (g.K.Desk.view c.args.desk.now) (g.K.Desk.view c.news-news.new.self)
    gave gate c.news-news.ensures.looked
    (record { room = serves.room; ended = serves.ended; stands = serves.stands })

pub returns-clause-goes : goal.returns-clause-goes
returns-clause-goes g c = λ gave gate begun serves.
    let looked = looked_serves g.T.Converse.kept g.T.Converse.talks g.L.Link.view g.met.T.Converse.kept_on
    g.met.T.Converse.talks_on begun c.args.self.now (g.K.Desk.view c.args.desk.now)
    (g.K.Desk.view c.news-news.new.self) gave gate c.news-news.ensures.looked serves in
    c.list_news_since.ensures.goes gave gate begun
    (record { room = looked.room; ended = looked.ended; stands = looked.stands })

pub returns-clause-on : goal.returns-clause-on
returns-clause-on g c =
    g.met.K.Desk.goes_on_further _ _ _ c.news-news.ensures.on c.list_news_since.ensures.on
