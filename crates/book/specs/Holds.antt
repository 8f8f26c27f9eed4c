-- What a book holds.
use Rattle.book_state.specs.State.{State}
use Rattle.book_tables.specs.View.{view}
use Rattle.book.specs.declared.book.Book.{Book}

abbrev pub holds : Book → State
holds b = view b.tables
