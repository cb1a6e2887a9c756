mod Scanned
mod Runs
mod Pieces
mod NamesBack
mod NumbersBack
mod StringsBack
mod DataBack
mod RecordsBack
