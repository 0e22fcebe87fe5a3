-- Titles as the code keeps them.
use Rattle.gs1_c.specs.Titles.{TitledAis, titled}
use Rattle.gs1_c.specs.declared.titles.Titled.{Titled}

-- these AIs as the table has them
abbrev pub titled_of : Titled → TitledAis
titled_of t = titled t.stem.now t.first t.last t.title.now
